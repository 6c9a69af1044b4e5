-- The effect breaks the group, or the verdict is unchanged.
use Rattle.sas_mutex.proofs.Imports.{◌≡◌, ◌+◌, ◌<◌, length, ap, subst, ◌∙◌, arith, both_ways, iff_not, get_or-set_same, Broken, Exclusive, IsJointVerdict, verdict_at, sym, Family, EffectPlace, operator_of, FailsFirst, failure_at, IsSomeAnd, IsIn, IsVerdictSoFar, family_of}
use Rattle.sas_mutex.proofs.VerdictsSoFar.{broken_here, one_verdict_more, so_far_by, one_effect_more, decided_already, one_broken, noted_here}
use Rattle.sas_mutex.proofs.joint.decide_group.Goals as goal
use Rattle.sas_mutex.proofs.joint.decide_group.Given.{Over}
use Rattle.sas_mutex.proofs.joint.decide_group.Goals.{After-set, After-note_failure, else-is_undecided-via-then-is_undecided+else-not-keeps_removed, else-is_undecided-via-else-is_undecided}

-- the effect is one of the operator's
abbrev IsPlaced : EffectPlace → Type 0
IsPlaced f = (f.operator < length f.task.operators) × (f.effect < length (operator_of f).effects)

broken : (g : Over) (c : After-set g) → IsJointVerdict c.args.firing.now.task c.args.group (Broken c.firing.inside.operator)
broken g c =
    let f = c.args.firing.now in
    let kept = c.args.keeping.now.family.kept in
    let placed = subst IsPlaced c.firing.view_is (c.firing.invariant.2, c.firing.invariant.3) in
    let undecided = rw (c.as_slice-kept.ensures, c.as_slice.ensures) at (c.is_undecided.ensures.0 c.if-is_undecided.true) in
    let out = λ (w : IsIn f.task (family_of kept) c.args.group). both_ways (family_of kept c.args.group) undecided.fell w.chosen in
    let so_far = subst (IsVerdictSoFar f.task kept f.operator f.effect c.args.group) undecided.nothing (c.requires.verdicts.so_far.are c.args.group c.requires.has.exists) in
    subst (λ (s : EffectPlace). IsJointVerdict f.task c.args.group (Broken s.operator)) (sym c.firing.view_is)
    (broken_here f.task kept f.operator f.effect c.args.group placed.0 placed.1 c.requires.has.among c.requires.verdicts.greatest out so_far
    (iff_not c.keeps_removed.ensures.is c.if-not-keeps_removed.true))

within : (g : Over) (c : After-set g) → c.args.group < length c.args.found.now.verdicts
within g c = let len = c.requires.verdicts.so_far.one_each in let exists = c.requires.has.exists in omega arith

same : (g : Over) (c : After-note_failure g) → c.note_failure.new.keeping.family.kept ≡ c.args.keeping.now.family.kept
same g c = ap (λ (family : Family). family.kept) c.note_failure.ensures.family ∙ c.keeps_removed.ensures.kept

-- the noted failure is the first one of the operator
first : (g : Over) (c : After-note_failure g) → c.args.group < length c.args.found.now.failures
    → IsSomeAnd (failure_at c.note_failure.new.failures c.args.group) (FailsFirst c.args.firing.now.task c.args.group c.firing.inside.operator)
first g c wanted =
    let f = c.args.firing.now in
    let kept = c.args.keeping.now.family.kept in
    let found = failure_at c.note_failure.new.failures c.args.group in
    let undecided = rw (c.as_slice-kept.ensures, c.as_slice.ensures) at (c.is_undecided.ensures.0 c.if-is_undecided.true) in
    let out = λ (w : IsIn f.task (family_of kept) c.args.group). both_ways (family_of kept c.args.group) undecided.fell w.chosen in
    let so_far = subst (IsVerdictSoFar f.task kept f.operator f.effect c.args.group) undecided.nothing (c.requires.verdicts.so_far.are c.args.group c.requires.has.exists) in
    let is = c.keeps_removed.ensures.kept in
    subst (λ (s : EffectPlace). IsSomeAnd found (FailsFirst f.task c.args.group s.operator)) (sym c.firing.view_is)
    (noted_here f kept c.args.group found c.requires.verdicts.greatest (so_far.1 out) (rw is at (c.note_failure.ensures.noted wanted)))

pub is_undecided-requires-clause-kept : goal.is_undecided-requires-clause-kept
is_undecided-requires-clause-kept g c =
    let as_many = ap length c.as_slice-kept.ensures ∙ c.requires.at_effect.room.one_each in let exists = c.requires.has.exists in omega arith

pub is_undecided-requires-clause-verdicts : goal.is_undecided-requires-clause-verdicts
is_undecided-requires-clause-verdicts g c =
    let as_many = ap length c.as_slice.ensures ∙ c.requires.verdicts.so_far.one_each in let exists = c.requires.has.exists in omega arith

pub note_failure-requires-clause-at_effect : goal.note_failure-requires-clause-at_effect
note_failure-requires-clause-at_effect g c = c.keeps_removed.ensures.at_effect

pub note_failure-requires-clause-broken : goal.note_failure-requires-clause-broken
note_failure-requires-clause-broken g c = rw c.keeps_removed.ensures.kept (iff_not c.keeps_removed.ensures.is c.if-not-keeps_removed.true)

pub returns-then-not-keeps_removed-clause-verdicts : goal.returns-then-not-keeps_removed-clause-verdicts
returns-then-not-keeps_removed-clause-verdicts g c =
    let f = c.args.firing.now in
    let known = c.requires.verdicts in
    let at = goal.at.returns-then-not-keeps_removed-clause-verdicts g c in
    record {
      greatest = rw (same g at.After-note_failure) known.greatest;
      so_far = rw (same g at.After-note_failure, c.set.ensures) (one_verdict_more f.task c.args.keeping.now.family.kept f.operator f.effect c.args.group c.args.found.now.verdicts
          (Broken c.firing.inside.operator) c.requires.has.exists known.so_far (broken g at.After-set));
      failures = rw c.set.ensures (one_broken f.task c.firing.inside.operator c.args.group c.args.found.now.verdicts c.args.found.now.failures c.note_failure.new.failures
          (within g at.After-set) c.note_failure.ensures.as_many c.note_failure.ensures.others (first g at.After-note_failure) known.failures);
    }

pub returns-then-not-keeps_removed-clause-this : goal.returns-then-not-keeps_removed-clause-this
returns-then-not-keeps_removed-clause-this g c =
    let at = goal.at.returns-then-not-keeps_removed-clause-this g c in
    rw (c.set.ensures, get_or-set_same c.args.found.now.verdicts c.args.group (Broken c.firing.inside.operator) Exclusive (within g at.After-set)) (broken g at.After-set)

pub returns-then-not-keeps_removed-clause-at_effect : goal.returns-then-not-keeps_removed-clause-at_effect
returns-then-not-keeps_removed-clause-at_effect g c = c.note_failure.ensures.at_effect

pub returns-else-is_undecided-clause-verdicts : goal.returns-else-is_undecided-clause-verdicts
returns-else-is_undecided-clause-verdicts g c = elim c.else-is_undecided.branch [
  | else-is_undecided-via-then-is_undecided+else-not-keeps_removed w ↦ rw w.keeping-is record {
    greatest = rw w.keeps_removed.ensures.kept c.requires.verdicts.greatest;
    so_far = rw w.keeps_removed.ensures.kept c.requires.verdicts.so_far;
    failures = c.requires.verdicts.failures;
  }
  | else-is_undecided-via-else-is_undecided w ↦ rw w.keeping-is c.requires.verdicts
]

pub returns-else-is_undecided-clause-this : goal.returns-else-is_undecided-clause-this
returns-else-is_undecided-clause-this g c =
    let f = c.args.firing.now in
    let kept = c.args.keeping.now.family.kept in
    let verdicts = c.args.found.now.verdicts in
    let so_far = c.requires.verdicts.so_far.are c.args.group c.requires.has.exists in
    elim c.else-is_undecided.branch [
      | else-is_undecided-via-then-is_undecided+else-not-keeps_removed w ↦ rw (w.keeping-is, w.keeps_removed.ensures.kept)
          (so_far_by f.task kept f.operator f.effect f.operator (f.effect + 1) c.args.group (verdict_at verdicts c.args.group)
          (λ out. one_effect_more f.task kept f.operator f.effect c.args.group (λ _. w.keeps_removed.ensures.is.0 w.if-not-keeps_removed.false)) so_far)
      | else-is_undecided-via-else-is_undecided w ↦ rw w.keeping-is (decided_already f.task kept f.operator f.effect c.args.group verdicts c.requires.has.exists
          (λ undecided. iff_not c.is_undecided.ensures w.if-is_undecided.false (rw (c.as_slice-kept.ensures, c.as_slice.ensures) undecided)) so_far)
    ]

pub returns-else-is_undecided-clause-at_effect : goal.returns-else-is_undecided-clause-at_effect
returns-else-is_undecided-clause-at_effect g c = elim c.else-is_undecided.branch [
  | else-is_undecided-via-then-is_undecided+else-not-keeps_removed w ↦ rw w.keeping-is w.keeps_removed.ensures.at_effect
  | else-is_undecided-via-else-is_undecided w ↦ rw w.keeping-is c.requires.at_effect
]

-- The verdict on each group that contains the fact set by the effect considers the effect: the
-- notes decide, the effect never fires, or the verdict was known before.
use Rattle.sas_mutex.proofs.Imports.{ℕ, ◌+◌, length, ap, subst, ◌∙◌, arith, Contains-get_or, All-contains, verdict_at, NeverFires, IsUndecided, ConsidersAt}
use Rattle.sas_mutex.proofs.VerdictsSoFar.{next_effect, one_effect_more, so_far_by, decided_already, clash_never_fires}
use Rattle.sas_mutex.proofs.joint.find_broken_by_effect.Goals as goal
use Rattle.sas_mutex.proofs.joint.find_broken_by_effect.Goals.{then-not-note, else-not-note}

pub some_undecided-requires-clause-kept : goal.some_undecided-requires-clause-kept
some_undecided-requires-clause-kept g c k d lt =
    let below = ((c.groups-groups.ensures _).0 (Contains-get_or c.groups-groups.result.now k d lt)).exists in
    let as_many = ap length c.as_slice-kept.ensures ∙ c.requires.idle.room.one_each in omega arith

pub some_undecided-requires-clause-verdicts : goal.some_undecided-requires-clause-verdicts
some_undecided-requires-clause-verdicts g c k d lt =
    let below = ((c.groups-groups.ensures _).0 (Contains-get_or c.groups-groups.result.now k d lt)).exists in
    let as_many = ap length c.as_slice.ensures ∙ c.requires.verdicts.so_far.one_each in omega arith

pub returns-then-not-some_undecided-clause-verdicts : goal.returns-then-not-some_undecided-clause-verdicts
returns-then-not-some_undecided-clause-verdicts g c =
    let f = c.args.firing.now in
    let kept = c.args.keeping.now.family.kept in
    let verdicts = c.args.found.now.verdicts in
    let known = c.requires.verdicts in
    record {
      greatest = known.greatest;
      so_far = next_effect f.task kept f.operator f.effect verdicts
          (λ place has. decided_already f.task kept f.operator f.effect place verdicts has.exists
          (rw (c.as_slice-kept.ensures, c.as_slice.ensures) at (All-contains (λ (n : ℕ). IsUndecided c.as_slice-kept.result.now c.as_slice.result.now n → ⊥) c.groups-groups.result.now place
          (c.some_undecided.ensures c.if-not-some_undecided.true) ((c.groups-groups.ensures place).1 has)))
          (known.so_far.are place has.exists)) known.so_far;
      failures = known.failures;
    }

pub note-requires-clause-one_each : goal.note-requires-clause-one_each
note-requires-clause-one_each g c = ap length c.as_slice-kept.ensures ∙ c.requires.idle.room.one_each

pub decide_groups-requires-clause-have : goal.decide_groups-requires-clause-have
decide_groups-requires-clause-have g c k d lt =
    let has = (c.groups-groups.ensures _).0 (Contains-get_or c.groups-groups.result.now k d lt) in
    record { exists = has.exists; among = has.among }

pub decide_groups-requires-clause-at_effect : goal.decide_groups-requires-clause-at_effect
decide_groups-requires-clause-at_effect g c = search (arith)

pub returns-clause-verdicts : goal.returns-clause-verdicts
returns-clause-verdicts g c =
    let f = c.args.firing.now in
    elim c.if-not-note.branch [
      | then-not-note w ↦
          (let kept = w.decide_groups.new.keeping.family.kept in
          let after = w.decide_groups.new.found.verdicts in
          let turn = w.decide_groups.ensures in
          rw (w.keeping-is, w.found-is) record {
            greatest = turn.verdicts.greatest;
            so_far = next_effect f.task kept f.operator f.effect after
                (λ place has. All-contains (ConsidersAt f kept after) c.groups-groups.result.now place turn.these ((c.groups-groups.ensures place).1 has)) turn.verdicts.so_far;
            failures = turn.verdicts.failures;
          })
      | else-not-note w ↦
          (let kept = c.args.keeping.now.family.kept in
          let verdicts = c.args.found.now.verdicts in
          let known = c.requires.verdicts in
          let never = subst (NeverFires f) c.as_slice-kept.ensures (c.note.ensures.yes w.if-not-note.false) in
          rw (w.keeping-is, w.found-is) record {
            greatest = known.greatest;
            so_far = next_effect f.task kept f.operator f.effect verdicts
                (λ place has. so_far_by f.task kept f.operator f.effect f.operator (f.effect + 1) place (verdict_at verdicts place)
                (λ out. one_effect_more f.task kept f.operator f.effect place (λ _. clash_never_fires f.task kept place has.exists c.requires.idle.room.one_each f.operator f.effect never))
                (known.so_far.are place has.exists)) known.so_far;
            failures = known.failures;
          })
    ]

pub returns-clause-idle : goal.returns-clause-idle
returns-clause-idle g c = record {
  room = elim c.if-not-note.branch [
    | then-not-note w ↦ rw w.keeping-is w.decide_groups.ensures.at_effect.room
    | else-not-note w ↦ rw w.keeping-is c.requires.idle.room
  ];
  clean = c.forget.ensures;
}

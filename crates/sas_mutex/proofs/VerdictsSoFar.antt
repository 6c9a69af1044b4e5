-- The verdicts after each effect and each operator.
use Rattle.sas_mutex.proofs.Imports.{rules, common_steps, below_more, ◌≡◌, ◌≢◌, ℕ, ◌+◌, ◌<◌, Bool, true, false, List, [], ◌∷◌, ◌++◌, length, set, refl, sym, ◌∙◌, ap, subst, inl, inr, arith, cases_eq, cases_Bool, both_ways, length_push, get_or_push, get_or_append_left, length-set, get_or-set_same, get_or-set_other, set-set, set-get_or, All-from_get_or, Contains, ◌↔◌, IsTrue, Fact, Operator, Parts, operator_at, effect_at, group_at, EffectKeeps, keeps_from_effects, effect_of_keeps, Recorded, IsKept, KeepsWithItself, AreCandidates, AreFirstVerdicts, IsUndecided, KeptSoFar, IsVerdictSoFar, AreVerdictsSoFar, IsNotedFor, known_at, Verdict, Exclusive, Derived, Initial, Broken, Clash, Keeps, sets, MayBeExclusive, IsIn, IsGroupOfOr, IsGreatest, IsJointVerdict, IsFirstVerdict, outside_is_broken, clash_more, GroupNote, Several, family_of, HasFactBeside, verdict_at, AreJointVerdicts, IsGroupNote, get_or_past, cases_lt, Option, None, Some, IsSomeAnd, EffectPlace, Failure, FailsFirst, failure_at, AreFailures, effect_of_failure, IsFirstOfEffectAt, operator_of}
use Rattle.sas_mutex.proofs.NotesOfFacts.{at_most_one}
use Rattle.sas_mutex.proofs.Keeping.{effect_keeps_more, keeps_if_beside}
use Rattle.sas_mutex.proofs.KnownFacts.{several_clash}
use Rattle.sas_mutex.proofs.FromNotes.{clash_keeps}
use Rattle.sas_mutex.proofs.Failing.{sets_one, kept_never_fails, first_of_all}

-- ---- the first verdicts

-- those on the first groups
pub record FirstUpTo (p : Parts) (n : ℕ) (verdicts : List Verdict) : Type 0 where
  pub one_each : length verdicts ≡ n
  pub are : (place : ℕ) → place < n → IsFirstVerdict p (group_at p place) (verdict_at verdicts place)

module _ (p : Parts) where
  pub first_none : FirstUpTo p 0 []
  first_none = record { one_each = refl; are = λ place lt. absurd (omega arith) }

  pub first_more : (n : ℕ) (verdicts : List Verdict) (verdict : Verdict) → FirstUpTo p n verdicts → IsFirstVerdict p (group_at p n) verdict
      → FirstUpTo p (n + 1) (verdicts ++ verdict ∷ [])
  first_more n verdicts verdict first is = record {
    one_each = length_push verdicts verdict ∙ ap (λ i. i + 1) first.one_each;
    are = below_more _ _ (λ place lt. subst (IsFirstVerdict p (group_at p place))
        (sym (get_or_append_left verdicts (verdict ∷ []) Exclusive place (let len = first.one_each in omega arith))) (first.are place lt))
        (subst (IsFirstVerdict p (group_at p n)) (sym (get_or_push verdicts verdict Exclusive n first.one_each)) is);
  }

  pub first_all : (n : ℕ) (verdicts : List Verdict) → n ≡ length p.groups → FirstUpTo p n verdicts → AreFirstVerdicts p verdicts
  first_all n verdicts all first = record { one_each = first.one_each ∙ all; are = λ place lt. first.are place (omega arith) }

  -- nothing speaks against a group so far where it may be exclusive
  exclusive_may : (place : ℕ) (verdict : Verdict) → IsFirstVerdict p (group_at p place) verdict → (verdict ≡ Exclusive) ↔ MayBeExclusive p (group_at p place)
  exclusive_may place h1 is = grind arith

  pub candidates_from : (verdicts : List Verdict) (kept : List Bool) → AreFirstVerdicts p verdicts
      → ((place : ℕ) → place < length verdicts → IsTrue (family_of kept place) ↔ (verdict_at verdicts place ≡ Exclusive)) → AreCandidates p kept
  candidates_from verdicts kept first exclusive place lt = grind (arith, common_steps, exclusive_may)

-- ---- a group put into the family for one test

module _ (p : Parts) (kept : List Bool) (place : ℕ) (exists : place < length p.groups) (one_each : length kept ≡ length p.groups) where
  put_in : family_of (set kept place true) place ≡ true
  put_in = get_or-set_same kept place true false (omega arith)

  pub is_in_then : IsIn p (family_of (set kept place true)) place
  is_in_then = record { exists = exists; chosen = put_in }

  -- the groups of the family with this place are those of the family, and this one
  pub with_place : (group : List Fact) → IsKept p (set kept place true) group → IsGroupOfOr p (family_of kept) (group_at p place) group
  with_place group (n, among, is) = grind (arith, common_steps, cases_eq, get_or-set_other)

  pub or_itself : (group : List Fact) → IsGroupOfOr p (family_of kept) (group_at p place) group → IsKept p (set kept place true) group
  or_itself group either = grind (arith, common_steps, cases_eq, get_or-set_other, is_in_then)

  -- so the family has more groups then
  pub is_more : (n : ℕ) → IsIn p (family_of kept) n → IsIn p (family_of (set kept place true)) n
  is_more n among = grind (arith, common_steps, cases_eq, get_or-set_other, is_in_then)

  pub keeps_then : (operator effect : ℕ) → KeepsWithItself p kept operator effect place
      → EffectKeeps (IsKept p (set kept place true)) (operator_at p operator) (group_at p place) (effect_at (operator_at p operator) effect)
  keeps_then operator effect = search (rules, arith, effect_keeps_more, or_itself)

  pub keeps_itself : (operator effect : ℕ)
      → EffectKeeps (IsKept p (set kept place true)) (operator_at p operator) (group_at p place) (effect_at (operator_at p operator) effect)
      → KeepsWithItself p kept operator effect place
  keeps_itself operator effect = search (rules, arith, effect_keeps_more, with_place)

  -- an effect that never fires keeps it
  never_fires : (operator effect : ℕ) → Clash (IsGroupOfOr p (family_of kept) (group_at p place)) (known_at p operator effect)
      → KeepsWithItself p kept operator effect place
  never_fires operator effect = search (rules, arith, clash_keeps)

  pub clash_never_fires : (operator effect : ℕ) → Clash (IsKept p kept) (known_at p operator effect) → KeepsWithItself p kept operator effect place
  clash_never_fires operator effect clash = never_fires operator effect
      (clash_more (IsKept p kept) (IsGroupOfOr p (family_of kept) (group_at p place)) (known_at p operator effect) (λ g counts. inl counts) clash)

  module _ (operator effect : ℕ) (recorded : Recorded) (noted : IsNotedFor p kept operator effect recorded) where
    pub several_never_fire : IsGroupNote p (known_at p operator effect) place Several → KeepsWithItself p kept operator effect place
    several_never_fire note = never_fires operator effect (several_clash p (IsGroupOfOr p (family_of kept) (group_at p place)) (known_at p operator effect) place (inr refl) note)

    -- where the effect doesn't keep it, nothing clashes for it
    pub noted_if_broken : (KeepsWithItself p kept operator effect place → ⊥) → IsNotedFor p (set kept place true) operator effect recorded
    noted_if_broken broken = record {
      are = record {
        noted = noted.are.noted;
        apart = λ clash. broken (never_fires operator effect
            (clash_more (IsKept p (set kept place true)) (IsGroupOfOr p (family_of kept) (group_at p place)) (known_at p operator effect) with_place clash));
      };
      from = noted.from;
    }

    -- nor where not several facts of it are known
    pub noted_with : (note : GroupNote) → IsGroupNote p (known_at p operator effect) place note → note ≢ Several → IsNotedFor p (set kept place true) operator effect recorded
    noted_with note shows few = record {
      are = record {
        noted = noted.are.noted;
        apart = λ (f, g, in_f, in_g, why). elim why [
          | inl w ↦ noted.are.apart (f, g, in_f, in_g, inl w)
          | inr one ↦ elim (with_place one.group one.counts) [
            | inl counts ↦ noted.are.apart
                (f, g, in_f, in_g, inr (record { differ = one.differ; group = one.group; counts = counts; first = one.first; second = one.second }))
            | inr is ↦ one.differ (at_most_one p (known_at p operator effect) place note shows few f g
                (record { among = in_f; has = record { exists = exists; among = subst (λ (facts : List Fact). Contains facts f) is one.first } })
                (record { among = in_g; has = record { exists = exists; among = subst (λ (facts : List Fact). Contains facts g) is one.second } }))
          ]
        ];
      };
      from = noted.from;
    }

-- taken out again, the family is as it was
pub put_back : (kept : List Bool) (place : ℕ) (was : Bool) → family_of kept place ≡ was → set (set kept place true) place was ≡ kept
put_back kept place was is = set-set kept place true was ∙ (ap (λ (b : Bool). set kept place b) (sym is) ∙ set-get_or kept place false)

-- ---- the verdicts so far

module _ (p : Parts) (kept : List Bool) where
  -- a verdict that isn't exclusive is final
  pub decided_for_good : (operator effect operator' effect' place : ℕ) (verdict : Verdict) → (verdict ≢ Exclusive)
      → IsVerdictSoFar p kept operator effect place verdict → IsVerdictSoFar p kept operator' effect' place verdict
  decided_for_good operator effect operator' effect' place h1 ne is = grind arith

  -- before the first operator
  so_far_first : (place : ℕ) (verdict : Verdict) → IsFirstVerdict p (group_at p place) verdict → IsVerdictSoFar p kept 0 0 place verdict
  so_far_first place Derived is = is
  so_far_first place Initial is = is
  so_far_first place (Broken operator) is = absurd is
  so_far_first place Exclusive is = (is, λ out. record { operators = λ lower lt. absurd (omega arith); effects = λ lower lt. absurd (omega arith) })

  pub so_far_at_first : (verdicts : List Verdict) → AreFirstVerdicts p verdicts → AreVerdictsSoFar p kept 0 0 verdicts
  so_far_at_first verdicts first = record { one_each = first.one_each; are = λ place lt. so_far_first place (verdict_at verdicts place) (first.are place lt) }

  -- what is kept so far, said again further on
  pub so_far_by : (operator effect operator' effect' place : ℕ) (verdict : Verdict)
      → ((IsIn p (family_of kept) place → ⊥) → KeptSoFar p kept operator effect place → KeptSoFar p kept operator' effect' place)
      → IsVerdictSoFar p kept operator effect place verdict → IsVerdictSoFar p kept operator' effect' place verdict
  so_far_by operator effect operator' effect' place h1 more is = grind arith

  -- an effect that keeps the group, or sets no fact of it
  pub one_effect_more : (operator effect place : ℕ)
      → (Contains (group_at p place) (sets (effect_at (operator_at p operator) effect)) → KeepsWithItself p kept operator effect place)
      → KeptSoFar p kept operator effect place → KeptSoFar p kept operator (effect + 1) place
  one_effect_more operator effect place keeps so_far = record {
    operators = so_far.operators;
    effects = below_more _ _ so_far.effects keeps;
  }

  -- all effects of the operator
  one_operator_more : (operator effects place : ℕ) → effects ≡ length (operator_at p operator).effects
      → KeptSoFar p kept operator effects place → KeptSoFar p kept (operator + 1) 0 place
  one_operator_more operator effects place all so_far = record {
    operators = below_more _ _ so_far.operators (keeps_from_effects (IsGroupOfOr p (family_of kept) (group_at p place)) (operator_at p operator) (group_at p place)
        (λ effect within. so_far.effects effect (omega arith)));
    effects = λ lower lt. absurd (omega arith);
  }

  pub next_operator : (operator effects : ℕ) (verdicts : List Verdict) → effects ≡ length (operator_at p operator).effects
      → AreVerdictsSoFar p kept operator effects verdicts → AreVerdictsSoFar p kept (operator + 1) 0 verdicts
  next_operator operator effects verdicts all so_far =
      let next = λ (place : ℕ). so_far_by operator effects (operator + 1) 0 place (verdict_at verdicts place) (λ _. one_operator_more operator effects place all) in
      record { one_each = so_far.one_each; are = λ place lt. next place (so_far.are place lt) }

  -- the effect is considered for each group that has the fact which it sets and another one
  one_effect_considered : (operator effect place : ℕ) (verdict : Verdict) → place < length p.groups
      → (HasFactBeside p place (sets (effect_at (operator_at p operator) effect)) → IsVerdictSoFar p kept operator (effect + 1) place verdict)
      → IsVerdictSoFar p kept operator effect place verdict → IsVerdictSoFar p kept operator (effect + 1) place verdict
  one_effect_considered operator effect place Exclusive exists considered is = (
    is.0,
    λ out. one_effect_more operator effect place
        (λ has. keeps_if_beside p (IsGroupOfOr p (family_of kept) (group_at p place)) (operator_at p operator) place (effect_at (operator_at p operator) effect) exists has
        (λ beside. ((considered beside).1 out).effects effect (omega arith) has)) (is.1 out),
  )
  one_effect_considered operator effect place Derived exists considered is = is
  one_effect_considered operator effect place Initial exists considered is = is
  one_effect_considered operator effect place (Broken breaking) exists considered is = is

  pub next_effect : (operator effect : ℕ) (verdicts : List Verdict)
      → ((place : ℕ) → HasFactBeside p place (sets (effect_at (operator_at p operator) effect)) → IsVerdictSoFar p kept operator (effect + 1) place (verdict_at verdicts place))
      → AreVerdictsSoFar p kept operator effect verdicts → AreVerdictsSoFar p kept operator (effect + 1) verdicts
  next_effect operator effect verdicts considered so_far =
      let next = λ (place : ℕ) (lt : place < length p.groups). one_effect_considered operator effect place (verdict_at verdicts place) lt (considered place) (so_far.are place lt) in
      record { one_each = so_far.one_each; are = next }

  -- of a group that is in the family, or whose effect is considered, nothing is left to decide
  pub decided_already : (operator effect place : ℕ) (verdicts : List Verdict) → place < length p.groups → (IsUndecided kept verdicts place → ⊥)
      → IsVerdictSoFar p kept operator effect place (verdict_at verdicts place) → IsVerdictSoFar p kept operator (effect + 1) place (verdict_at verdicts place)
  decided_already operator effect place verdicts exists considered is = elim (cases_Bool (family_of kept place)) [
    | inl here ↦ so_far_by operator effect operator (effect + 1) place (verdict_at verdicts place) (λ out. absurd (out (record { exists = exists; chosen = here }))) is
    | inr gone ↦ decided_for_good operator effect operator (effect + 1) place (verdict_at verdicts place) (λ e. considered (record { fell = gone; nothing = e })) is
  ]

  -- one verdict more
  pub one_verdict_more : (operator effect place : ℕ) (verdicts : List Verdict) (verdict : Verdict) → place < length p.groups
      → AreVerdictsSoFar p kept operator effect verdicts → IsVerdictSoFar p kept operator effect place verdict
      → AreVerdictsSoFar p kept operator effect (set verdicts place verdict)
  one_verdict_more operator effect place verdicts verdict exists so_far is = record {
    one_each = length-set verdicts place verdict ∙ so_far.one_each;
    are = λ n lt. elim (cases_eq n place) [
      | inl e ↦ subst (λ i. IsVerdictSoFar p kept operator effect i (verdict_at (set verdicts place verdict) i)) (sym e)
          (subst (IsVerdictSoFar p kept operator effect place) (sym (get_or-set_same verdicts place verdict Exclusive (let len = so_far.one_each in omega arith))) is)
      | inr ne ↦ subst (IsVerdictSoFar p kept operator effect n) (sym (get_or-set_other verdicts place n verdict Exclusive ne)) (so_far.are n lt)
    ];
  }

  -- the group is broken by this operator
  pub broken_here : (operator effect place : ℕ) → operator < length p.operators → effect < length (operator_at p operator).effects
      → Contains (group_at p place) (sets (effect_at (operator_at p operator) effect))
      → IsGreatest p (family_of kept) → (IsIn p (family_of kept) place → ⊥)
      → IsVerdictSoFar p kept operator effect place Exclusive → (KeepsWithItself p kept operator effect place → ⊥)
      → IsJointVerdict p place (Broken operator)
  broken_here operator effect place exists within has greatest out so_far broken = (
    family_of kept,
    greatest,
    out,
    so_far.0.basic,
    so_far.0.initial,
    record {
      exists = exists;
      breaks = λ keeps. broken (effect_of_keeps (IsGroupOfOr p (family_of kept) (group_at p place)) (operator_at p operator) (group_at p place) keeps effect within has);
      first = (so_far.1 out).operators;
    },
  )

  -- ---- in the end

  all_joint : IsGreatest p (family_of kept) → (place : ℕ) → place < length p.groups → (verdict : Verdict)
      → IsVerdictSoFar p kept (length p.operators) 0 place verdict → IsJointVerdict p place verdict
  all_joint greatest place exists Derived is = is
  all_joint greatest place exists Initial is = is
  all_joint greatest place exists (Broken operator) is = is
  all_joint greatest place exists Exclusive is = elim (cases_Bool (family_of kept place)) [
    | inl here ↦ (family_of kept, greatest, record { exists = exists; chosen = here })
    | inr gone ↦ absurd (outside_is_broken p (family_of kept) place exists greatest (out gone) is.0
        (All-from_get_or (λ (o : Operator). Keeps (IsGroupOfOr p (family_of kept) (group_at p place)) o (group_at p place)) p.operators _ (is.1 (out gone)).operators))
  ]
    where
      out : family_of kept place ≡ false → IsIn p (family_of kept) place → ⊥
      out gone w = both_ways (family_of kept place) gone w.chosen

  pub joint_in_the_end : (operators : ℕ) (verdicts : List Verdict) → operators ≡ length p.operators → IsGreatest p (family_of kept)
      → AreVerdictsSoFar p kept operators 0 verdicts → AreJointVerdicts p verdicts
  joint_in_the_end operators verdicts all greatest so_far = search (rules, arith, all_joint)

-- ---- the failures

-- before operators are looked at no group is broken
pub no_failures : (p : Parts) (verdicts : List Verdict) (failures : List (Option Failure)) → AreFirstVerdicts p verdicts → AreFailures p verdicts failures
no_failures p verdicts failures first place operator lt is = elim (cases_lt place (length p.groups)) [
  | inl exists ↦ absurd (subst (IsFirstVerdict p (group_at p place)) is (first.are place exists))
  | inr past ↦ absurd (let none = get_or_past verdicts place Exclusive (let len = first.one_each in omega arith) in cc)
]

-- one group more is broken
pub one_broken : (p : Parts) (operator place : ℕ) (verdicts : List Verdict) (before after : List (Option Failure)) → place < length verdicts
    → length after ≡ length before → ((n : ℕ) → n ≢ place → failure_at after n ≡ failure_at before n)
    → (place < length before → IsSomeAnd (failure_at after place) (FailsFirst p place operator))
    → AreFailures p verdicts before → AreFailures p (set verdicts place (Broken operator)) after
one_broken p operator place verdicts before after exists as_many others here failures n breaking lt is = elim (cases_eq n place) [
  | inl e ↦ (let same : Broken operator ≡ Broken breaking = sym (get_or-set_same verdicts place (Broken operator) Exclusive exists) ∙ subst (λ i. verdict_at (set verdicts place (Broken operator)) i ≡ Broken breaking) e is in
      let it : operator ≡ breaking = cc in
      subst (λ i. IsSomeAnd (failure_at after i) (FailsFirst p i breaking)) (sym e) (subst (λ o. IsSomeAnd (failure_at after place) (FailsFirst p place o)) it (here (omega (arith, lt, as_many, e)))))
  | inr ne ↦ subst (λ (found : Option Failure). IsSomeAnd found (FailsFirst p n breaking)) (sym (others n ne))
      (failures n breaking (omega (arith, lt, as_many)) (sym (get_or-set_other verdicts place n (Broken operator) Exclusive ne) ∙ is))
]

-- the first failure of the first effect that doesn't keep the group is that of its operator
pub failure_here : (f : EffectPlace) (kept : List Bool) (place : ℕ) (failure : Failure) → IsGreatest f.task (family_of kept)
    → KeptSoFar f.task kept f.operator f.effect place → IsFirstOfEffectAt f kept place failure → FailsFirst f.task place f.operator failure
failure_here f kept place failure greatest so_far first = (
  family_of kept,
  greatest,
  first_of_all Counts (operator_of f) (group_at f.task place) f.effect failure first
      (λ other lower fails. kept_never_fails Counts (operator_of f) (group_at f.task place) other
      (so_far.effects (effect_of_failure other) lower (sets_one Counts (operator_of f) (group_at f.task place) other fails)) fails),
)
  where
    Counts : List Fact → Type 0
    Counts = IsGroupOfOr f.task (family_of kept) (group_at f.task place)

-- and so of a failure that is noted
pub noted_here : (f : EffectPlace) (kept : List Bool) (place : ℕ) (failure : Option Failure) → IsGreatest f.task (family_of kept)
    → KeptSoFar f.task kept f.operator f.effect place → IsSomeAnd failure (IsFirstOfEffectAt f kept place)
    → IsSomeAnd failure (FailsFirst f.task place f.operator)
noted_here f kept place None greatest so_far first = first
noted_here f kept place (Some failure) greatest so_far first = failure_here f kept place failure greatest so_far first

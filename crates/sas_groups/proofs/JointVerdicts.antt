-- Each group has exactly one joint verdict; that it exists is stated as a double negation, like
-- each step of the proof.
use Rattle.sas_groups.proofs.Imports.{◌≡◌, ℕ, zero, suc, ◌<◌, ◌≤◌, Bool, false, List, length, refl, sym, ap, subst, inl, inr, arith, ◌||◌, cases_eq, cases_order, false≢true, get_or_default, Fact, Parts, operator_at, group_at, Exclusive, Derived, Broken, Keeps, IsIn, AllKeep, IsKeptJointly, IsGreatest, IsGroupOfOr, IsExclusiveIn, IsOnBasic, MayBeExclusive, IsFirstBreaking, GreatestExists, JointVerdictIsOne, SomeJointVerdict}
use Rattle.sas_groups.specs.declared.verdict.Verdict.TheVariants.{Initial}
use Rattle.sas_groups.proofs.GreatestFamily.{keeps_more, in_first, in_second, families_unite, greatest_is_one, outside_is_broken}

-- ---- there is a greatest family

-- a family that is kept jointly and has each place below `end` that any such family has
record IsGreatestBelow (p : Parts) (end : ℕ) (family : ℕ → Bool) : Type 0 where
  jointly : IsKeptJointly p family
  has : (other : ℕ → Bool) → IsKeptJointly p other → (place : ℕ) → place < end → IsIn p other place → IsIn p family place

none_is_kept : (p : Parts) → IsKeptJointly p (λ place. false)
none_is_kept p = record { may = λ place among. absurd (false≢true among.chosen); kept = λ place among. absurd (false≢true among.chosen) }

-- it is so for one place more, if no family that is kept jointly has that place
one_more_place : (p : Parts) (end : ℕ) (family : ℕ → Bool) → IsGreatestBelow p end family
    → ((other : ℕ → Bool) → IsKeptJointly p other → IsIn p other end → ⊥) → IsGreatestBelow p (suc end) family
one_more_place p end family below no_other = record {
  jointly = below.jointly;
  has = λ other kept place lt among. elim (cases_eq place end) [
    | inl is ↦ absurd (no_other other kept (subst (IsIn p other) is among))
    | inr ne ↦ below.has other kept place (omega arith) among
  ];
}

-- if one has it, the two families together are so
with_other : (p : Parts) (end : ℕ) (family other : ℕ → Bool) → IsGreatestBelow p end family
    → IsKeptJointly p other → IsIn p other end → IsGreatestBelow p (suc end) (λ n. family n || other n)
with_other p end family other below kept here = record {
  jointly = families_unite p family other below.jointly kept;
  has = λ more kept' place lt among. elim (cases_eq place end) [
    | inl is ↦ in_second p family other place (subst (IsIn p other) (sym is) here)
    | inr ne ↦ in_first p family other place (below.has more kept' place (omega arith) among)
  ];
}

greatest_exists_below : (p : Parts) (end : ℕ) → ((family : ℕ → Bool) → IsGreatestBelow p end family → ⊥) → ⊥
greatest_exists_below p zero none = none (λ place. false) (record {
  jointly = none_is_kept p;
  has = λ other kept place lt among. absurd (omega arith);
})
greatest_exists_below p (suc end) none = greatest_exists_below p end (λ family below.
    none family (one_more_place p end family below (λ other kept here.
    none (λ n. family n || other n) (with_other p end family other below kept here))))

pub greatest_exists : GreatestExists
greatest_exists p none = greatest_exists_below p (length p.groups) (λ family below. none family (record {
  jointly = below.jointly;
  greatest = λ other kept place among. below.has other kept place among.exists among;
}))

-- ---- the first operator that doesn't keep a group

-- if none is the first, all below `end` keep it
some_all_keep : (p : Parts) (Counts : List Fact → Type 0) (group : List Fact) (end : ℕ) → end ≤ length p.operators
    → ((operator : ℕ) → IsFirstBreaking p Counts group operator → ⊥)
    → (((operator : ℕ) → operator < end → Keeps Counts (operator_at p operator) group) → ⊥) → ⊥
some_all_keep p Counts group zero within no_first not_all = not_all (λ operator lt. absurd (omega arith))
some_all_keep p Counts group (suc end) within no_first not_all = some_all_keep p Counts group end (omega arith) no_first (λ before.
    no_first end (record {
      exists = omega arith;
      breaks = λ keeps. not_all (λ operator lt. elim (cases_eq operator end) [
        | inl is ↦ subst (λ n. Keeps Counts (operator_at p n) group) (sym is) keeps
        | inr is_not ↦ before operator (omega arith)
      ]);
      first = before;
    }))

pub some_first_breaking : (p : Parts) (Counts : List Fact → Type 0) (group : List Fact) → (AllKeep p Counts group → ⊥)
    → ((operator : ℕ) → IsFirstBreaking p Counts group operator → ⊥) → ⊥
some_first_breaking p Counts group broken no_first = some_all_keep p Counts group (length p.operators) (omega arith) no_first (λ each.
    broken (λ operator otherwise lt. subst (λ o. Keeps Counts o group) (get_or_default p.operators operator _ otherwise lt) (each operator lt)))

-- under the same groups no operator below the first is a first one
not_lower : (p : Parts) (Counts More : List Fact → Type 0) (group : List Fact) (lower operator : ℕ) → ((g : List Fact) → More g → Counts g)
    → IsFirstBreaking p Counts group lower → IsFirstBreaking p More group operator → lower < operator → ⊥
not_lower p Counts More group lower operator fewer a b lt =
    a.breaks (keeps_more More Counts (operator_at p lower) group fewer (b.first lower lt))

pub first_breaking_is_one : (p : Parts) (Counts More : List Fact → Type 0) (group : List Fact) (a b : ℕ)
    → ((g : List Fact) → Counts g → More g) → ((g : List Fact) → More g → Counts g)
    → IsFirstBreaking p Counts group a → IsFirstBreaking p More group b → a ≡ b
first_breaking_is_one p Counts More group a b more fewer first first' = elim (cases_order a b) [
  | inl is ↦ is
  | inr differ ↦ elim differ [
    | inl lower ↦ absurd (not_lower p Counts More group a b fewer first first' lower)
    | inr higher ↦ absurd (not_lower p More Counts group b a more first' first higher)
  ]
]

-- ---- verdicts

-- under two greatest families the same groups count, also with one group beside them
pub same_or_itself : (p : Parts) (a b : ℕ → Bool) (itself : List Fact) → IsGreatest p a → IsGreatest p b
    → (group : List Fact) → IsGroupOfOr p a itself group → IsGroupOfOr p b itself group
same_or_itself p a b itself ga gb group counts = elim counts [ inl of ↦ inl (of.0, greatest_is_one p a b ga gb of.0 of.1, of.2) | inr is ↦ inr is ]

-- a group of the greatest family may be exclusive
may_be : (p : Parts) (family : ℕ → Bool) (place : ℕ) → IsGreatest p family → IsIn p family place → MayBeExclusive p (group_at p place)
may_be p family place greatest among = greatest.jointly.may place among

pub joint_verdict_is_one : JointVerdictIsOne
joint_verdict_is_one p place Exclusive Exclusive exists x y = refl
joint_verdict_is_one p place Exclusive Derived exists (family, greatest, among) y = absurd (y (may_be p family place greatest among).basic)
joint_verdict_is_one p place Exclusive Initial exists (family, greatest, among) y = absurd (y.1 (may_be p family place greatest among).initial)
joint_verdict_is_one p place Exclusive (Broken b) exists (family, greatest, among) (family', greatest', outside, basic, initial, first) = absurd (outside (greatest_is_one p family family' greatest greatest' place among))
joint_verdict_is_one p place Derived Exclusive exists x (family, greatest, among) = absurd (x (may_be p family place greatest among).basic)
joint_verdict_is_one p place Derived Derived exists x y = refl
joint_verdict_is_one p place Derived Initial exists x y = absurd (x y.0)
joint_verdict_is_one p place Derived (Broken b) exists x (family, greatest, outside, basic, initial, first) = absurd (x basic)
joint_verdict_is_one p place Initial Exclusive exists x (family, greatest, among) = absurd (x.1 (may_be p family place greatest among).initial)
joint_verdict_is_one p place Initial Derived exists x y = absurd (y x.0)
joint_verdict_is_one p place Initial Initial exists x y = refl
joint_verdict_is_one p place Initial (Broken b) exists x (family, greatest, outside, basic, initial, first) = absurd (x.1 initial)
joint_verdict_is_one p place (Broken a) Exclusive exists (family, greatest, outside, basic, initial, first) (family', greatest', among) = absurd (outside (greatest_is_one p family' family greatest' greatest place among))
joint_verdict_is_one p place (Broken a) Derived exists (family, greatest, outside, basic, initial, first) y = absurd (y basic)
joint_verdict_is_one p place (Broken a) Initial exists (family, greatest, outside, basic, initial, first) y = absurd (y.1 initial)
joint_verdict_is_one p place (Broken a) (Broken b) exists (family, greatest, outside, basic, initial, first) (family', greatest', outside', basic', initial', first') =
    ap (λ n. Broken n) (first_breaking_is_one p (IsGroupOfOr p family (group_at p place)) (IsGroupOfOr p family' (group_at p place)) (group_at p place) a b
    (same_or_itself p family family' (group_at p place) greatest greatest') (same_or_itself p family' family (group_at p place) greatest' greatest) first first')

pub some_joint_verdict : SomeJointVerdict
some_joint_verdict p place exists none = none Derived (λ basic. none Initial (basic, λ initial. greatest_exists p (broken basic initial)))
  where
    broken : IsOnBasic p (group_at p place) → IsExclusiveIn p.init (group_at p place) → (family : ℕ → Bool) → IsGreatest p family → ⊥
    broken basic initial family greatest = some_first_breaking p (IsGroupOfOr p family (group_at p place)) (group_at p place)
        (outside_is_broken p family place exists greatest outside (record { basic = basic; initial = initial }))
        (λ operator first. none (Broken operator) (family, greatest, outside, basic, initial, first))
      where
        outside : IsIn p family place → ⊥
        outside among = none Exclusive (family, greatest, among)

-- The union of families that are kept jointly is kept jointly. The greatest family is
-- unique, contains each group that is exclusive alone, and no group can be added to it.
use Rattle.sas_groups.proofs.Imports.{◌≡◌, ℕ, ◌<◌, ◌⊎◌, Bool, true, false, List, ◌++◌, length, refl, sym, ap, subst, inl, inr, ◌||◌, ◌==◌, IsTrue, eq-eqb, eqb-true, Fact, Operator, Parts, group_at, preconditions, arith, rules, common_steps, Clash, Keeps, MayBeExclusive, IsIn, IsGroupOf, IsGroupOfOr, AllKeep, IsKeptJointly, FamiliesUnite, GreatestIsOne, GreatestHasAlone, OutsideIsBroken}

-- ---- the more groups count, the more is kept

pub clash_more : (Counts More : List Fact → Type 0) (facts : List Fact) → ((g : List Fact) → Counts g → More g)
    → Clash Counts facts → Clash More facts
clash_more Counts More facts more (f, g, in_f, in_g, why) = search (rules, arith)

pub keeps_more : (Counts More : List Fact → Type 0) (o : Operator) (group : List Fact) → ((g : List Fact) → Counts g → More g)
    → Keeps Counts o group → Keeps More o group
keeps_more Counts More o group more k = record {
  two = λ e f in_e in_f he hf ne. clash_more Counts More (preconditions o ++ e.conditions ++ f.conditions) more (k.two e f in_e in_f he hf ne);
  others = search (rules, arith, clash_more);
}

pub all_keep_more : (p : Parts) (Counts More : List Fact → Type 0) (group : List Fact) → ((g : List Fact) → Counts g → More g)
    → AllKeep p Counts group → AllKeep p More group
all_keep_more p Counts More group more all k d lt = keeps_more Counts More _ group more (all k d lt)

-- ---- families

-- a larger family has more groups
pub group_of_larger : (p : Parts) (a b : ℕ → Bool) → ((place : ℕ) → IsIn p a place → IsIn p b place)
    → (group : List Fact) → IsGroupOf p a group → IsGroupOf p b group
group_of_larger p a b larger group (place, among, is) = (place, larger place among, is)

or_cases : (x y : Bool) → IsTrue (x || y) → IsTrue x ⊎ IsTrue y
or_cases true y h = inl refl
or_cases false y h = inr h

or_left : (x y : Bool) → IsTrue x → IsTrue (x || y)
or_left x y h = ap (λ z. z || y) h

or_right : (x y : Bool) → IsTrue y → IsTrue (x || y)
or_right true y h = refl
or_right false y h = h

pub in_either : (p : Parts) (a b : ℕ → Bool) (place : ℕ) → IsIn p (λ n. a n || b n) place → IsIn p a place ⊎ IsIn p b place
in_either p a b place w = grind (arith, common_steps, or_cases)

pub in_first : (p : Parts) (a b : ℕ → Bool) (place : ℕ) → IsIn p a place → IsIn p (λ n. a n || b n) place
in_first p a b place w = record { exists = w.exists; chosen = or_left (a place) (b place) w.chosen }

pub in_second : (p : Parts) (a b : ℕ → Bool) (place : ℕ) → IsIn p b place → IsIn p (λ n. a n || b n) place
in_second p a b place w = record { exists = w.exists; chosen = or_right (a place) (b place) w.chosen }

pub families_unite : FamiliesUnite
families_unite p a b ka kb = record {
  may = grind (arith, common_steps, in_either);
  kept = λ place w. elim (in_either p a b place w) [
    | inl h ↦ all_keep_more p (IsGroupOf p a) (IsGroupOf p (λ n. a n || b n)) (group_at p place) (group_of_larger p a (λ n. a n || b n) (in_first p a b)) (ka.kept place h)
    | inr h ↦ all_keep_more p (IsGroupOf p b) (IsGroupOf p (λ n. a n || b n)) (group_at p place) (group_of_larger p b (λ n. a n || b n) (in_second p a b)) (kb.kept place h)
  ];
}

pub greatest_is_one : GreatestIsOne
greatest_is_one p a b ga gb place w = gb.greatest a ga.jointly place w

-- ---- one more place

-- the family of one place
pub in_single : (p : Parts) (place : ℕ) → place < length p.groups → IsIn p (λ n. n == place) place
in_single p place exists = record { exists = exists; chosen = eq-eqb place place refl }

pub single_is_kept : (p : Parts) (place : ℕ) → place < length p.groups → MayBeExclusive p (group_at p place)
    → AllKeep p (λ g. g ≡ group_at p place) (group_at p place) → IsKeptJointly p (λ n. n == place)
single_is_kept p place exists may kept = record {
  may = λ n w. subst (λ i. MayBeExclusive p (group_at p i)) (sym (eqb-true n place w.chosen)) may;
  kept = λ n w. subst (λ i. AllKeep p (IsGroupOf p (λ x. x == place)) (group_at p i)) (sym (eqb-true n place w.chosen))
      (all_keep_more p (λ g. g ≡ group_at p place) (IsGroupOf p (λ x. x == place)) (group_at p place)
      (λ g is. (place, in_single p place exists, is)) kept);
}

pub greatest_has_alone : GreatestHasAlone
greatest_has_alone p family place exists greatest verdict = greatest.greatest (λ n. n == place)
    (single_is_kept p place exists (record { basic = verdict.0; initial = verdict.1 }) verdict.2) place (in_single p place exists)

-- a family with one place more
pub with_place_is_kept : (p : Parts) (family : ℕ → Bool) (place : ℕ) → place < length p.groups → IsKeptJointly p family
    → MayBeExclusive p (group_at p place) → AllKeep p (IsGroupOfOr p family (group_at p place)) (group_at p place)
    → IsKeptJointly p (λ n. family n || (n == place))
with_place_is_kept p family place exists jointly may kept = record {
  may = grind (arith, common_steps, in_either, eqb-true);
  kept = λ n w. elim (in_either p family (λ x. x == place) n w) [
    | inl h ↦ all_keep_more p (IsGroupOf p family) (IsGroupOf p (λ x. family x || (x == place))) (group_at p n) larger (jointly.kept n h)
    | inr h ↦ subst (λ i. AllKeep p (IsGroupOf p (λ x. family x || (x == place))) (group_at p i)) (sym (eqb-true n place h.chosen))
        (all_keep_more p (IsGroupOfOr p family (group_at p place)) (IsGroupOf p (λ x. family x || (x == place))) (group_at p place) or_itself kept)
  ];
}
  where
    larger : (group : List Fact) → IsGroupOf p family group → IsGroupOf p (λ x. family x || (x == place)) group
    larger = group_of_larger p family (λ x. family x || (x == place)) (in_first p family (λ x. x == place))

    or_itself : (group : List Fact) → IsGroupOfOr p family (group_at p place) group → IsGroupOf p (λ x. family x || (x == place)) group
    or_itself group w = grind (arith, common_steps, larger, in_second, in_single)

pub outside_is_broken : OutsideIsBroken
outside_is_broken p family place exists greatest outside may kept = outside (greatest.greatest (λ n. family n || (n == place))
    (with_place_is_kept p family place exists greatest.jointly may kept) place
    (in_second p family (λ n. n == place) place (in_single p place exists)))

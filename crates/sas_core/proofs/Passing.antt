-- When a sequence of checks passes: a single check and its rule, and two sequences one after the
-- other.
use Rattle.std.proofs.Common.{arith}
use Rattle.std.proofs.lemmas.Grind.{common_steps}
use Rattle.sas_core.proofs.Imports.{◌≡◌, ◌↔◌, Bool, true, false, if◌then◌else◌, List, [], ◌∷◌, ◌++◌, Option, Some, None, refl, Check, first_fault, check}

-- no check of these fails
pub record Pass {F : Type 0} (row : List (Check F)) : Type 0 where
  pub none : first_fault row ≡ None

check_passes : {F : Type 0} (passes : Bool) (e : F) → Pass (check passes e) → passes ≡ true
check_passes true e pass = refl
check_passes false e pass = let impossible : Some e ≡ None = pass.none in absurd (cc)

passing_check : {F : Type 0} (passes : Bool) (e : F) → passes ≡ true → Pass (check passes e)
passing_check true e is = record { none = refl }
passing_check false e is = absurd (cc)

-- a test that decides a rule, as a check
pub by_test : {F : Type 0} (passes : Bool) (e : F) (P : Type 0) → (passes ≡ true) ↔ P → Pass (check passes e) ↔ P
by_test passes e P same = (λ pass. same.0 (check_passes passes e pass), λ p. passing_check passes e (same.1 p))

both_none : {F : Type 0} (passes : Bool) (e : F) (x y both : Option F) → (both ≡ None → (x ≡ None) × (y ≡ None)) → (if passes then both else Some e) ≡ None → ((if passes then x else Some e) ≡ None) × (y ≡ None)
both_none true e x y both split none = split none
both_none false e x y both split none = absurd (cc)

none_in_both : {F : Type 0} (passes : Bool) (e : F) (x both : Option F) → (x ≡ None → both ≡ None) → (if passes then x else Some e) ≡ None → (if passes then both else Some e) ≡ None
none_in_both true e x both join none = join none
none_in_both false e x both join none = absurd (cc)

pub split_row : {F : Type 0} (a b : List (Check F)) → first_fault (a ++ b) ≡ None → (first_fault a ≡ None) × (first_fault b ≡ None)
split_row [] b none = (refl, none)
split_row (c ∷ a) b none = both_none c.passes c.fault (first_fault a) (first_fault b) (first_fault (a ++ b)) (split_row a b) none

pub join_row : {F : Type 0} (a b : List (Check F)) → first_fault a ≡ None → first_fault b ≡ None → first_fault (a ++ b) ≡ None
join_row [] b a_none b_none = b_none
join_row (c ∷ a) b a_none b_none = none_in_both c.passes c.fault (first_fault a) (first_fault (a ++ b)) (λ none. join_row a b none b_none) a_none

-- some checks, and others behind them
pub and_then : {F : Type 0} (a b : List (Check F)) (P Q : Type 0) → Pass a ↔ P → Pass b ↔ Q → Pass (a ++ b) ↔ (P × Q)
and_then a b P Q first second = grind (arith, common_steps, split_row, join_row)

-- The members of a list.
use Rattle.sas_meaning.proofs.Imports.{◌≡◌, zero, suc, ◌⊎◌, List, [], ◌∷◌, refl, arith, Contains}

pub contains_head : {A : Type 0} (x : A) (xs : List A) → Contains (x ∷ xs) x
contains_head x xs = (0, omega arith, refl)

pub contains_tail : {A : Type 0} (x : A) (xs : List A) (z : A) → Contains xs z → Contains (x ∷ xs) z
contains_tail x xs z (k, lt, is) = (suc k, omega arith, is)

pub contains_cases : {A : Type 0} (x : A) (xs : List A) (z : A) → Contains (x ∷ xs) z → (x ≡ z) ⊎ Contains xs z
contains_cases x xs z h1 = grind (arith, zero, suc)

pub contains_none : {A : Type 0} (z : A) → Contains [] z → ⊥
contains_none z (k, lt, is) = omega arith

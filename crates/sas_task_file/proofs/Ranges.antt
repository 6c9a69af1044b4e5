-- The ranges of variables.
use Rattle.sas_task_file.proofs.Imports.{◌≡◌, ℕ, zero, suc, List, [], ◌∷◌, ◌++◌, length, refl, ap, Variable, range_of, ranges_of, range_in}

pub ranges_many : (vs : List Variable) → length (ranges_of vs) ≡ length vs
ranges_many [] = refl
ranges_many (v ∷ vs) = ap suc (ranges_many vs)

pub ranges_push : (vs : List Variable) (v : Variable) → ranges_of (vs ++ v ∷ []) ≡ ranges_of vs ++ length v.values ∷ []
ranges_push [] v = refl
ranges_push (w ∷ vs) v = ap (λ (rs : List ℕ). length w.values ∷ rs) (ranges_push vs v)

pub range_is : (vs : List Variable) (var : ℕ) → range_in (ranges_of vs) var ≡ range_of vs var
range_is [] var = refl
range_is (v ∷ vs) zero = refl
range_is (v ∷ vs) (suc var) = range_is vs var

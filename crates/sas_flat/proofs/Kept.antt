-- What holds after an error, and ends of lists after which empty lists came.
use Rattle.sas_flat.proofs.Imports.{ℕ, zero, suc, List, [], ◌∷◌, ◌++◌, length, replicate, sym, subst, arith, append-nil, append_assoc, Result, Ok, Err, OnErr, AreEnds}
use Rattle.sas_flat.proofs.Blocks.{ends_more}

-- what holds, holds after an error too
pub on_any_error : {T E P : Type 0} (r : Result T E) → P → OnErr r P
on_any_error (Ok x) p = tt
on_any_error (Err e) p = p

module _ {X : Type 0} (items : List X) where
  -- empty lists behind the others
  pub ends_filled : (n : ℕ) (ends : List ℕ) → AreEnds ends (length items) → AreEnds (ends ++ replicate n (length items)) (length items)
  ends_filled zero ends are = subst (λ (e : List ℕ). AreEnds e (length items)) (sym (append-nil ends)) are
  ends_filled (suc n) ends are =
      subst (λ (e : List ℕ). AreEnds e (length items)) (append_assoc ends (length items ∷ []) (replicate n (length items)))
      (ends_filled n (ends ++ length items ∷ []) (ends_more ends (length items) (length items) are (omega arith)))

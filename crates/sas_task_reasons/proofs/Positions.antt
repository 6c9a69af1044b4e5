-- The first place at which a test passes.
use Rattle.std.proofs.lemmas.Grind.{common_steps}
use Rattle.sas_task_reasons.proofs.Imports.{◌≡◌, ℕ, ◌<◌, Bool, true, false, cond, List, length, get_or, Some, None, inl, inr, sym, ap, ◌∙◌, arith, position, nat_lt, lt-ltb, cases_Bool, ltb-true, position_or_len_is}

module _ {X : Type 0} (p : X → Bool) (xs : List X) (d : X) where
  -- at this place it passes, and at no lower one
  pub position_at : (i : ℕ) → i < length xs → ((k : ℕ) → k < i → p (get_or xs k d) ≡ false) → p (get_or xs i d) ≡ true → Some i ≡ position p xs
  position_at i within before passes = grind (arith, common_steps, position_or_len_is, lt-ltb)

  -- it passes at none
  pub position_none : ((k : ℕ) → k < length xs → p (get_or xs k d) ≡ false) → None ≡ position p xs
  position_none each =
      let none : length xs < length xs → p (get_or xs (length xs) d) ≡ true = λ less. absurd (omega arith) in
      let last = position_or_len_is p xs (length xs) d (omega arith) each none in
      sym
      (ap (λ (n : ℕ). cond (nat_lt n (length xs)) (Some n) None) last
      ∙ ap (λ (b : Bool). cond b (Some (length xs)) None) (not_less (length xs)))
    where
      not_less : (n : ℕ) → nat_lt n n ≡ false
      not_less n = elim (cases_Bool (nat_lt n n)) [ inl y ↦ absurd (let less = ltb-true n n y in omega arith) | inr isnt ↦ isnt ]

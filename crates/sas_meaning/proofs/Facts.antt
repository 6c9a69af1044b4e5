-- Whether facts hold and whether an effect sets a variable is decidable.
use Rattle.sas_meaning.proofs.Imports.{◌≡◌, ◌≢◌, ℕ, ◌⊎◌, List, [], ◌∷◌, get_or, refl, inl, inr, arith, cases_eq, All, Contains, All-nil, All-cons, All-head, All-tail, Contains-append_right, Fact, Effect, Holds, AllHold, Fires}

-- whether all facts hold can be decided
pub hold_or_not : (value : ℕ → ℕ) (facts : List Fact) → AllHold value facts ⊎ (AllHold value facts → ⊥)
hold_or_not value [] = inl (All-nil (Holds value))
hold_or_not value (f ∷ fs) = elim (cases_eq (value f.var) f.value) [
  | inr n ↦ inr (λ h. n (All-head (Holds value) f fs h))
  | inl y ↦ elim (hold_or_not value fs) [
    | inl h ↦ inl (All-cons (Holds value) f fs y h)
    | inr n ↦ inr (λ h. n (All-tail (Holds value) f fs h))
  ]
]

-- some effect that fires sets the variable
pub record SetBy (s : List ℕ) (effects : List Effect) (v : ℕ) : Type 0 where
  pub effect : Effect
  pub among : Contains effects effect
  pub fires : Fires s effect
  pub on : effect.var ≡ v

abbrev pub Untouched : List ℕ → ℕ → Effect → Type 0
Untouched s v e = Fires s e → e.var ≢ v

-- either some does, or none
pub set_or_kept : (s : List ℕ) (effects : List Effect) (v : ℕ) → SetBy s effects v ⊎ All (Untouched s v) effects
set_or_kept s [] v = inr (All-nil (Untouched s v))
set_or_kept s (e ∷ es) v = elim (set_or_kept s es v) [
  | inl w ↦ inl (record { effect = w.effect; among = Contains-append_right (e ∷ []) es w.effect w.among; fires = w.fires; on = w.on })
  | inr kept ↦ elim (cases_eq e.var v) [
    | inr ne ↦ inr (All-cons (Untouched s v) e es (λ _. ne) kept)
    | inl is ↦ elim (hold_or_not (λ w. get_or s w 0) e.conditions) [
      | inl h ↦ inl (record { effect = e; among = (0, omega arith, refl); fires = h; on = is })
      | inr n ↦ inr (All-cons (Untouched s v) e es (λ h. absurd (n h)) kept)
    ]
  ]
]

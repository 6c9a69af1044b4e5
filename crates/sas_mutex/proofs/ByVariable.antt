-- The entries of the effects of large operators.
use Rattle.sas_mutex.proofs.Imports.{below_more, ◌≡◌, ℕ, ◌+◌, ◌<◌, List, [], ◌∷◌, ◌++◌, length, get_or, sym, subst, All, Contains, Contains-append_left, Contains-push, Parts, operator_at, Entry, by_key, under_holds, IsLarge, effect_entry, AreEntered, AreByVariable, place_of}

-- one effect more
pub effect_entered : (p : Parts) (places operator effect : ℕ) (before now after : List (Entry ℕ)) (entry : Entry ℕ) → AreEntered p places operator effect before now
    → entry ≡ effect_entry p places operator effect → after ≡ now ++ entry ∷ [] → AreEntered p places operator (effect + 1) before after
effect_entered p places operator effect before now after entry entered is more = rw more record {
  each = below_more _ _ (λ other lt. Contains-append_left now (entry ∷ []) (effect_entry p places operator other) (entered.each other lt))
      (subst (λ (x : Entry ℕ). Contains (now ++ entry ∷ []) x) is (Contains-push now entry));
  still = λ x there. Contains-append_left now (entry ∷ []) x (entered.still x there);
}

-- the effects of the first operators, where these are large
abbrev pub AreLargeEntered : Parts → ℕ → ℕ → List (Entry ℕ) → Type 0
AreLargeEntered p places operators entries = (operator : ℕ) → operator < operators → IsLarge p operator
    → (effect : ℕ) → effect < length (operator_at p operator).effects → Contains entries (effect_entry p places operator effect)

-- one operator more, which is large or isn't
pub large_entered : (p : Parts) (places operator : ℕ) (before after : List (Entry ℕ)) → AreLargeEntered p places operator before
    → AreEntered p places operator (length (operator_at p operator).effects) before after → AreLargeEntered p places (operator + 1) after
large_entered p places operator before after were entered = below_more _ _
    (λ other lt large effect within. entered.still (effect_entry p places other effect) (were other lt large effect within)) (λ large. entered.each)

pub small_passed : (p : Parts) (places operator : ℕ) (entries : List (Entry ℕ)) → AreLargeEntered p places operator entries → (IsLarge p operator → ⊥)
    → AreLargeEntered p places (operator + 1) entries
small_passed p places operator entries were small = below_more _ _ were (λ large. absurd (small large))

-- by key, they are by variable
pub large_by_variable : (p : Parts) (places : ℕ) (entries : List (Entry ℕ)) → 0 < places → length (by_key entries places) ≡ places
    → All (λ (e : Entry ℕ). e.key < places) entries → AreLargeEntered p places (length p.operators) entries → AreByVariable p (by_key entries places)
large_by_variable p places entries some many low entered = record {
  some = subst (λ (n : ℕ). 0 < n) (sym many) some;
  are = λ operator lt large var effect within on.
      subst (λ (n : ℕ). Contains (get_or (by_key entries places) (place_of operator var n) []) effect) (sym many)
      ((under_holds entries places (place_of operator var places) effect low).1
      (subst (λ (v : ℕ). Contains entries (record { key = place_of operator v places; item = effect })) on (entered operator lt large effect within)));
}

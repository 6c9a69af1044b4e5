-- Intermediate states while the rules of a layer fire.
use Rattle.std.specs.Prelude.{◌≡◌, ◌≢◌, ℕ, ◌+◌, ◌==◌, Bool, if◌then◌else◌, IsTrue, List, [], ◌∷◌, slice_index}
use Rattle.sas_core.specs.declared.parts.Effect.{Effect}
use Rattle.sas_core.specs.declared.parts.Parts.{Parts}
use Rattle.sas_meaning.specs.States.{AllHold}
use Rattle.sas_meaning.specs.Layers.{IsOnLayer, default_of, CanFire}
use Rattle.sas_meaning.specs.Settled.{new_value_of, IsClosed, differs}

-- each variable on this layer that differs from its default is in every closed set, and has the new
-- value of its rules
pub record OnlyForced (t : Parts) (layer : ℕ) (s : List ℕ) : Type 0 where
  pub new : (v : ℕ) → IsOnLayer t layer v → IsTrue (differs t s v)
      → slice_index s v ≡ new_value_of t v
  pub least : (set : ℕ → Bool) → IsClosed t layer s set
      → (v : ℕ) → IsOnLayer t layer v → IsTrue (differs t s v) → IsTrue (set v)

-- the number of places at which two lists are equal
abbrev pub equal_places : List ℕ → List ℕ → ℕ
equal_places [] ys = 0
equal_places (x ∷ xs) [] = 0
equal_places (x ∷ xs) (y ∷ ys) = (if x == y then 1 else 0) + equal_places xs ys

-- if the rule is on the layer and fires, its variable has its new value
abbrev pub HasFired : Parts → ℕ → List ℕ → Effect → Type 0
HasFired t layer s rule = IsOnLayer t layer rule.var → CanFire t rule
    → AllHold (slice_index s) rule.conditions → slice_index s rule.var ≡ rule.new

-- the rule is on the layer and fires, and its variable doesn't have its new value yet
pub record Changes (t : Parts) (layer : ℕ) (s : List ℕ) (rule : Effect) : Type 0 where
  pub on : IsOnLayer t layer rule.var
  pub can : CanFire t rule
  pub hold : AllHold (slice_index s) rule.conditions
  pub new : slice_index s rule.var ≢ rule.new

abbrev pub SameOff : Parts → ℕ → List ℕ → List ℕ → Type 0
SameOff t layer s s' = (v : ℕ) → (IsOnLayer t layer v → ⊥) → slice_index s v ≡ slice_index s' v

-- all variables on the layer have their defaults
abbrev pub AtDefault : Parts → ℕ → List ℕ → Type 0
AtDefault t layer s = (v : ℕ) → IsOnLayer t layer v → slice_index s v ≡ default_of t v

-- some variable is on the layer
abbrev pub Occurs : Parts → ℕ → Type 0
Occurs t layer = (v : ℕ) × IsOnLayer t layer v

-- Settled states: those in which each derived variable has the value that follows from the rules,
-- layer by layer.
--
-- On each layer, the variables that get the new value of their rules are the least set that is
-- closed under the rules of the layer. So two rules that derive b from c and c from b don't support
-- each other: if no other rule derives b or c, both keep their defaults.
use Rattle.std.specs.Prelude.{◌≡◌, ℕ, ◌==◌, ◌&&◌, Bool, false, not, if◌then◌else◌, IsTrue, List, All, slice_index, find}
use Rattle.std.specs.Option.{option_map_or}
use Rattle.sas_core.specs.declared.parts.Effect.{Effect}
use Rattle.sas_core.specs.declared.parts.Parts.{Parts}
use Rattle.sas_core.specs.Variables.{layer_of, IsState}
use Rattle.sas_meaning.specs.States.{AllHold}
use Rattle.sas_meaning.specs.Layers.{IsBasic, IsOnLayer, default_of, CanFire, can_fire}

-- whether the variable is on this layer
abbrev pub is_on_layer : Parts → ℕ → ℕ → Bool
is_on_layer p layer var = option_map_or (λ its. its == layer) (layer_of p.variables var) false

-- the new value of the variable's rules that can fire; in a layered task it is the same for all of
-- them. If no rule can fire, the default.
abbrev pub new_value_of : Parts → ℕ → ℕ
new_value_of p var = option_map_or (λ (rule : Effect). rule.new)
    (find (λ (rule : Effect). (rule.var == var) && can_fire p rule) p.rules) (default_of p var)

-- The value of a variable, given the members of the layer: members have the new value of their
-- rules, other variables of the layer have their default, and all other variables have their value
-- in the state s. Members outside the layer or without a rule that can fire make no difference.
abbrev pub value_with : Parts → ℕ → List ℕ → (ℕ → Bool) → ℕ → ℕ
value_with p layer s members var =
    if is_on_layer p layer var
    then (if members var then new_value_of p var else default_of p var)
    else slice_index s var

-- the members are closed under the rules of the layer: if a rule can fire and its conditions hold,
-- given these members, then its variable is a member
abbrev pub IsClosed : Parts → ℕ → List ℕ → (ℕ → Bool) → Type 0
IsClosed p layer s members = All (λ (rule : Effect). IsOnLayer p layer rule.var → CanFire p rule
    → AllHold (value_with p layer s members) rule.conditions → IsTrue (members rule.var)) p.rules

-- whether the value of the variable isn't its default
abbrev pub differs : Parts → List ℕ → ℕ → Bool
differs p s var = not (slice_index s var == default_of p var)

-- on this layer, the variables that differ from their default are the least closed set, and they
-- have the new value of their rules
pub record IsSettledAt (p : Parts) (layer : ℕ) (s : List ℕ) : Type 0 where
  pub new : (var : ℕ) → IsOnLayer p layer var → IsTrue (differs p s var)
      → slice_index s var ≡ new_value_of p var
  pub closed : IsClosed p layer s (differs p s)
  pub least : (members : ℕ → Bool) → IsClosed p layer s members
      → (var : ℕ) → IsOnLayer p layer var → IsTrue (differs p s var) → IsTrue (members var)

-- a state is settled if it is settled on every layer
abbrev pub IsSettled : Parts → List ℕ → Type 0
IsSettled p s = (layer : ℕ) → IsSettledAt p layer s

-- the basic variables have the same values in both states
abbrev pub SameBasic : Parts → List ℕ → List ℕ → Type 0
SameBasic p s s' = (var : ℕ) → IsBasic p var → slice_index s var ≡ slice_index s' var

-- s' is the settled state with the basic values of s
pub record Settles (p : Parts) (s s' : List ℕ) : Type 0 where
  pub state : IsState p.variables s'
  pub basic : SameBasic p s s'
  pub settled : IsSettled p s'

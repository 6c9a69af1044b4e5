-- Layered tasks: those whose axioms are stratified. There, the values of the basic variables
-- determine those of the derived variables, layer by layer.
use Rattle.std.specs.Prelude.{◌≡◌, ◌≢◌, ℕ, ◌<◌, ◌≤◌, ◌==◌, Bool, not, Some, None, All, slice_index}
use Rattle.sas_core.specs.declared.parts.Fact.{Fact}
use Rattle.sas_core.specs.declared.parts.Effect.{Effect}
use Rattle.sas_core.specs.declared.parts.Operator.{Operator}
use Rattle.sas_core.specs.declared.parts.Parts.{Parts}
use Rattle.sas_core.specs.Variables.{layer_of, IsDerived}

-- a variable without layer is basic; a variable that doesn't exist counts as basic, but no effect
-- or fact of a task is on such a variable
abbrev pub IsBasic : Parts → ℕ → Type 0
IsBasic p var = layer_of p.variables var ≡ None

abbrev pub IsOnLayer : Parts → ℕ → ℕ → Type 0
IsOnLayer p layer var = layer_of p.variables var ≡ Some layer

-- the default of a derived variable is its value in the state section
abbrev pub default_of : Parts → ℕ → ℕ
default_of p var = slice_index p.init var

-- a rule can fire if its new value isn't the default of its variable; a rule that sets the default
-- has no effect
abbrev pub CanFire : Parts → Effect → Type 0
CanFire p rule = rule.new ≢ default_of p rule.var

abbrev pub can_fire : Parts → Effect → Bool
can_fire p rule = not (rule.new == default_of p rule.var)

-- If the condition is on a derived variable, the layer of that variable isn't higher than that of
-- the rule's variable; if the condition requires the default, it is lower.
abbrev pub LooksDown : Parts → ℕ → Fact → Type 0
LooksDown p var condition = (here there : ℕ) → IsOnLayer p here var
    → IsOnLayer p there condition.var
    → (there ≤ here) × (condition.value ≡ default_of p condition.var → there < here)

-- the requirements for a rule that can fire
pub record IsLayeredRule (p : Parts) (rule : Effect) : Type 0 where
  -- its old value, if given, is the default
  pub old : (value : ℕ) → rule.old ≡ Some value → value ≡ default_of p rule.var
  -- all rules of its variable that can fire have the same new value
  pub one_value : All (λ (other : Effect). CanFire p other → other.var ≡ rule.var
      → other.new ≡ rule.new) p.rules
  -- its conditions follow the order of layers
  pub order : All (LooksDown p rule.var) rule.conditions

pub record IsLayered (p : Parts) : Type 0 where
  -- no operator has an effect on a derived variable
  pub effects : All (λ (o : Operator). All (λ (e : Effect). IsBasic p e.var) o.effects) p.operators
  -- the variable of each rule is derived
  pub derived : All (λ (rule : Effect). IsDerived p.variables rule.var) p.rules
  -- the rules that can fire meet the requirements
  pub rules : All (λ (rule : Effect). CanFire p rule → IsLayeredRule p rule) p.rules

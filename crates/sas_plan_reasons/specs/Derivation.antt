-- Why a derived variable has its value in a settled state, if it differs from its default.
--
-- The order of derived values is a list of rules. It is built from the empty list: again and again
-- the lowest rule is added that can be, until there is none. So a rule rests only on rules before
-- it: the rules "b from c" and "c from b" don't explain each other.
use Rattle.std.specs.Prelude.{◌≡◌, ℕ, ◌<◌, ◌==◌, ◌&&◌, Bool, not, is_some, IsTrue, IsFalse, List, length, take, slice_index, All, AllPairs, Contains}
use Rattle.std.specs.List.{list_any}
use Rattle.sas_core.specs.declared.parts.Fact.{Fact}
use Rattle.sas_core.specs.declared.parts.Parts.{Parts}
use Rattle.sas_core.specs.Variables.{layer_of}
use Rattle.sas_core.specs.Grounded.{rule_at}
use Rattle.sas_meaning.specs.Layers.{default_of, CanFire}
use Rattle.sas_meaning.specs.States.{AllHold}
use Rattle.sas_plan_reasons.specs.Lowest.{IsLowest}

-- whether the fact needs a rule: its variable is derived, and its value isn't the default
abbrev pub needs_rules : Parts → Fact → Bool
needs_rules p fact =
    is_some (layer_of p.variables fact.var) && not (fact.value == default_of p fact.var)

-- whether one of these rules is a rule of the variable
abbrev pub has_rule : Parts → List ℕ → ℕ → Bool
has_rule p rules var = list_any (λ rule. (rule_at p rule).var == var) rules

-- The rule can be added to these rules: it can fire, its conditions hold in s, its variable has no
-- rule yet, and the variables of those conditions that need a rule have one.
pub record CanBeAdded (p : Parts) (s rules : List ℕ) (rule : ℕ) : Type 0 where
  pub exists : rule < length p.rules
  pub can : CanFire p (rule_at p rule)
  pub hold : AllHold (slice_index s) (rule_at p rule).conditions
  pub new : IsFalse (has_rule p rules (rule_at p rule).var)
  pub rests : All (λ (c : Fact). IsTrue (needs_rules p c) → IsTrue (has_rule p rules c.var))
      (rule_at p rule).conditions

-- the order of derived values: each rule is the lowest that can be added to those before it, and no
-- rule can be added to all of them
pub record IsOrder (p : Parts) (s order : List ℕ) : Type 0 where
  pub each : (k : ℕ) → k < length order
      → IsLowest (CanBeAdded p s (take k order)) (slice_index order k)
  pub whole : (rule : ℕ) → CanBeAdded p s order rule → ⊥

-- the rule is one of the order, and of the variable
pub record IsRuleOf (p : Parts) (order : List ℕ) (var rule : ℕ) : Type 0 where
  pub among : Contains order rule
  pub on : (rule_at p rule).var ≡ var

-- a condition of the rule needs a rule of the variable
pub record DependsOn (p : Parts) (rule var : ℕ) : Type 0 where
  pub condition : Fact
  pub among : Contains (rule_at p rule).conditions condition
  pub on : condition.var ≡ var
  pub needs : IsTrue (needs_rules p condition)

-- the derivation of a variable contains the variable's rule, and with each rule the rules of the
-- variables on which it depends
pub data InDerivation (p : Parts) (order : List ℕ) (var : ℕ) : ℕ → Type 0 where
  Own : {rule : ℕ} → IsRuleOf p order var rule → InDerivation p order var rule
  Below : {above on rule : ℕ} → InDerivation p order var above → DependsOn p above on
      → IsRuleOf p order on rule → InDerivation p order var rule

-- one rule stands before another
pub record StandsBefore (order : List ℕ) (rule rule' : ℕ) : Type 0 where
  pub place : ℕ
  pub place' : ℕ
  pub less : place < place'
  pub within : place' < length order
  pub at : slice_index order place ≡ rule
  pub at' : slice_index order place' ≡ rule'

-- the rules of the variable's derivation, in the order of derived values
pub record IsDerivation (p : Parts) (s : List ℕ) (var : ℕ) (rules : List ℕ) : Type 0 where
  pub order : List ℕ
  pub is : IsOrder p s order
  pub each : All (InDerivation p order var) rules
  pub whole : (rule : ℕ) → InDerivation p order var rule → Contains rules rule
  pub ordered : AllPairs (StandsBefore order) rules

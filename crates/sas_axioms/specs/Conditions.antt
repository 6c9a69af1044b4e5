-- The conditions of the rules that can fire: an index of them, their variables, and the number of
-- open conditions.
use Rattle.std.specs.Prelude.{◌≡◌, ◌≢◌, ℕ, ◌+◌, ◌<◌, ◌≤◌, ◌^◌, ◌==◌, ◌&&◌, if◌then◌else◌, List, [], ◌∷◌, length, All, slice_index, slice_index_or}
use Rattle.sas_core.specs.declared.parts.Fact.{Fact}
use Rattle.sas_core.specs.declared.parts.Parts.{Parts}
use Rattle.sas_core.specs.Grounded.{rule_at}
use Rattle.sas_core.specs.WellRanged.{WellRanged}
use Rattle.sas_flat.specs.declared.by_key.Entry.{Entry}
use Rattle.sas_meaning.specs.Layers.{IsLayered}
use Rattle.sas_axioms.specs.declared.conditions.ValueChange.{ValueChange}
use Rattle.sas_axioms.specs.declared.conditions.RuleCondition.{RuleCondition}
use Rattle.sas_axioms.specs.declared.counting.ConditionCounts.{ConditionCounts}
use Rattle.sas_axioms.specs.LayerRules.{IsRuleOn, AreRulesOf}

-- how often these conditions contain this fact
abbrev pub asking : ℕ → ℕ → List Fact → ℕ
asking var value [] = 0
asking var value (c ∷ cs) =
    (if (c.var == var) && (c.value == value) then 1 else 0) + asking var value cs

-- the entry for a condition of the rule; its key is the variable of the condition
abbrev pub waiting_entry : Fact → ℕ → Entry RuleCondition
waiting_entry condition rule =
    record { key = condition.var; item = record { value = condition.value; rule = rule } }

-- the entry belongs to a rule that can fire
abbrev pub IsOfRule : Parts → RuleCondition → Type 0
IsOfRule p w = (layer : ℕ) × IsRuleOn p layer w.rule

-- the conditions of a rule as entries
abbrev pub entries : ℕ → List Fact → List (Entry RuleCondition)
entries rule [] = []
entries rule (c ∷ cs) = waiting_entry c rule ∷ entries rule cs

-- the rules of the entries with this value, in order
abbrev pub released : ℕ → List RuleCondition → List ℕ
released value [] = []
released value (w ∷ ws) = if w.value == value then w.rule ∷ released value ws else released value ws

-- 1 if the condition is on the value, else 0
abbrev pub waits_for : ℕ → RuleCondition → ℕ
waits_for value w = if w.value == value then 1 else 0

-- how often a number occurs in a list
abbrev pub occurrences : ℕ → List ℕ → ℕ
occurrences n [] = 0
occurrences n (x ∷ xs) = (if x == n then 1 else 0) + occurrences n xs

-- the entries for the variable
abbrev pub waiting_at : List (List RuleCondition) → ℕ → List RuleCondition
waiting_at index var = slice_index_or index var []

-- the list of a variable contains, for each rule that can fire and each value, as many entries as
-- the rule has conditions with this variable and value
pub record IsFullIndex (p : Parts) (index : List (List RuleCondition)) : Type 0 where
  pub one_each : length index ≡ length p.variables
  pub only : (var : ℕ) → All (IsOfRule p) (waiting_at index var)
  pub each : (layer var value rule : ℕ) → IsRuleOn p layer rule
      → occurrences rule (released value (waiting_at index var))
      ≡ asking var value (rule_at p rule).conditions

-- the task is well ranged and layered, and the lists are the conditions and the rules of each
-- variable
pub record AreIndexed (p : Parts) (waiting : List (List RuleCondition)) (setting : List (List ℕ))
    : Type 0 where
  pub ranged : WellRanged p
  pub layered : IsLayered p
  pub full : IsFullIndex p waiting
  pub all : AreRulesOf p setting

-- the number of conditions that don't hold
abbrev pub open_conditions : (ℕ → ℕ) → List Fact → ℕ
open_conditions value [] = 0
open_conditions value (c ∷ cs) =
    (if value c.var == c.value then 0 else 1) + open_conditions value cs

-- the counter of each rule that can fire is the number of its conditions that are open under these
-- values
pub record AreCounted (p : Parts) (values counters : List ℕ) : Type 0 where
  pub one_each : length counters ≡ length p.rules
  pub known : length values ≡ length p.variables
  pub exact : (layer rule : ℕ) → IsRuleOn p layer rule
      → slice_index counters rule ≡ open_conditions (slice_index values) (rule_at p rule).conditions

-- the counters are those of the values, and the index is that of the layered task
pub record IsCounted (p : Parts) (c : ConditionCounts) : Type 0 where
  pub ranged : WellRanged p
  pub layered : IsLayered p
  pub index : IsFullIndex p c.index
  pub counts : AreCounted p c.values c.counters

-- a variable moved, and the counter of the rule with this condition on it can be updated
pub record CanCount (moved : ValueChange) (w : RuleCondition) (counters : List ℕ) : Type 0 where
  pub differ : moved.former ≢ moved.value
  pub exists : w.rule < length counters
  pub small : slice_index counters w.rule + waits_for moved.former w < 2 ^ 32
  pub enough : waits_for moved.value w ≤ slice_index counters w.rule

-- How far a worklist has come on a layer, and what it needs.
use Rattle.std.specs.Prelude.{◌≡◌, ◌⊎◌, ℕ, ◌+◌, ◌*◌, ◌<◌, ◌≤◌, ◌==◌, if◌then◌else◌, IsTrue, List, [], length, slice_index, slice_index_or, slice_set, vec_capacity}
use Rattle.sas_core.specs.declared.parts.Parts.{Parts}
use Rattle.sas_core.specs.Grounded.{rule_at}
use Rattle.sas_core.specs.Variables.{IsState}
use Rattle.sas_meaning.specs.Layers.{IsOnLayer, default_of}
use Rattle.sas_meaning.specs.DerivedVariables.{AreDerivedSpans}
use Rattle.sas_meaning.specs.Settled.{differs}
use Rattle.sas_meaning.specs.Forced.{OnlyForced, equal_places, SameOff, AtDefault}
use Rattle.sas_axioms.specs.declared.firing.LayerSettler.{LayerSettler}
use Rattle.sas_axioms.specs.declared.firing.Work.{Work}
use Rattle.sas_axioms.specs.declared.layer_rules.LayerRule.{LayerRule}
use Rattle.sas_axioms.specs.declared.worklist.Worklist.{Worklist}
use Rattle.sas_axioms.specs.LayerRules.{IsRuleOn, AreFirstRules, AreRulesOf}
use Rattle.sas_axioms.specs.Sources.{AreGiven, SameSourcesOff}
use Rattle.sas_axioms.specs.Conditions.{AreCounted, IsCounted, open_conditions, occurrences}

-- the value that the counters use: the default for a variable on the stack, else its value
abbrev pub value_seen : Parts → List ℕ → List ℕ → ℕ → ℕ
value_seen p s stack var =
    if occurrences var stack == 0 then slice_index s var else default_of p var

-- the stack contains variables of the layer that were set to the new value of their rules, each
-- once
pub record IsRunning (p : Parts) (layer : ℕ) (s stack : List ℕ) : Type 0 where
  pub state : IsState p.variables s
  pub forced : OnlyForced p layer s
  pub fired : (var : ℕ) → 0 < occurrences var stack
      → IsOnLayer p layer var × IsTrue (differs p s var)
  pub once : (var : ℕ) → occurrences var stack ≤ 1
  pub room : length stack + equal_places s p.init ≤ length s

-- the counter of each rule that can fire is the number of its conditions that are open under these
-- values
abbrev pub AreCountedBy : Parts → (ℕ → ℕ) → List ℕ → Type 0
AreCountedBy p value counters = (layer rule : ℕ) → IsRuleOn p layer rule
    → slice_index counters rule ≡ open_conditions value (rule_at p rule).conditions

-- an upper bound of the remaining work
abbrev pub left_to_do : Parts → List ℕ → List ℕ → ℕ
left_to_do p s stack = 2 * equal_places s p.init + length stack

-- there is a counter for each rule, and the stack has room for each variable
pub record WorkHasRoom (p : Parts) (w : Work) : Type 0 where
  pub one_each : length w.counters ≡ length p.rules
  pub variables : length p.variables ≤ vec_capacity w.stack
  pub sources : length w.sources ≡ length p.variables

-- rules of the current layer are being fired
pub record IsFiring (p : Parts) (s stack : List ℕ) (w : Work) : Type 0 where
  pub room : WorkHasRoom p w
  pub running : IsRunning p w.layer s stack
  pub given : AreGiven p w.layer s w.sources

-- rules of the current layer are being fired, and the conditions on the variables on the stack are
-- still to be counted
pub record IsAtWork (p : Parts) (s stack : List ℕ) (w : Work) : Type 0 where
  pub firing : IsFiring p s stack w
  pub counts : AreCountedBy p (value_seen p s stack) w.counters

-- no variable is on the stack
pub record IsAtRest (p : Parts) (s : List ℕ) (w : Work) : Type 0 where
  pub at_work : IsAtWork p s [] w
  pub empty : w.stack.items ≡ []

-- The work affects only its layer, on which variables that differ from their defaults keep their
-- values. Each rule of the layer whose last open condition was met has set its variable.
pub record WorkGoesOn (p : Parts) (s : List ℕ) (w : Work) (s' : List ℕ) (w' : Work) : Type 0 where
  pub layer : w'.layer ≡ w.layer
  pub off : SameOff p w.layer s s'
  pub sources : SameSourcesOff p w.layer w.sources w'.sources
  pub kept : (var : ℕ) → IsTrue (differs p s var) → slice_index s' var ≡ slice_index s var
  pub fired : (rule : ℕ) → IsRuleOn p w.layer rule → slice_index w'.counters rule ≡ 0
      → (slice_index s' (rule_at p rule).var ≡ (rule_at p rule).new)
      ⊎ (slice_index w.counters rule ≡ 0)

-- with this rule as the source of the variable
abbrev pub with_source : Work → ℕ → ℕ → Work
with_source w var rule = record {
  layer = w.layer;
  counters = w.counters;
  stack = w.stack;
  sources = slice_set w.sources var rule;
  agenda = w.agenda;
}

-- the data for settling layers fit the task, the counters with which settling begins are those for
-- the defaults, and the stack is empty
pub record IsFiringReady (p : Parts) (f : LayerSettler) : Type 0 where
  pub counted : IsCounted p f.counted
  pub default : (layer : ℕ) → AtDefault p layer f.counted.values
  pub rules_of : AreRulesOf p f.rules_of
  pub room : WorkHasRoom p f.work
  pub empty : f.work.stack.items ≡ []

-- what a worklist holds fits the task
pub record IsReadyFor (p : Parts) (w : Worklist) : Type 0 where
  pub derived : AreDerivedSpans p w.derived.items
  pub rules : AreFirstRules p w.rules.items
  pub firing : IsFiringReady p w.firing

-- the rules from index `place` on are those of `layer` and higher layers
pub record LayerBeginsAt (rules : List LayerRule) (layer place : ℕ) : Type 0 where
  pub within : place ≤ length rules
  pub before : (k : ℕ) (d : LayerRule) → k < place → (slice_index_or rules k d).layer < layer
  pub behind : (k : ℕ) (d : LayerRule) → place ≤ k → k < length rules
      → layer ≤ (slice_index_or rules k d).layer

-- the worklist is ready, this layer and the higher ones remain, and the counters fit the values of
-- the state
pub record IsReadyFrom (p : Parts) (layer : ℕ) (s : List ℕ) (w : Worklist) : Type 0 where
  pub ready : IsReadyFor p w
  pub stands : LayerBeginsAt w.rules.items layer w.next
  pub counts : AreCounted p s w.firing.work.counters
  pub given : (below : ℕ) → below < layer → AreGiven p below s w.firing.work.sources

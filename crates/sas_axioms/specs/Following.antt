-- Updating a settled state after some of its basic variables have changed.
use Rattle.std.specs.Prelude.{◌≡◌, ◌⊎◌, ◌↔◌, ℕ, ◌+◌, ◌<◌, ◌≤◌, IsTrue, List, [], length, All, Contains, slice_index, slice_set}
use Rattle.std.specs.declared.cmp.Reverse.{Reverse}
use Rattle.std.specs.BinaryHeap.{heap_items}
use Rattle.sas_core.specs.declared.parts.Fact.{Fact}
use Rattle.sas_core.specs.declared.parts.Parts.{Parts}
use Rattle.sas_core.specs.Grounded.{rule_at}
use Rattle.sas_core.specs.Variables.{IsState}
use Rattle.sas_meaning.specs.Layers.{IsOnLayer, IsLayered}
use Rattle.sas_meaning.specs.Settled.{differs, IsSettledAt, IsSettled}
use Rattle.sas_axioms.specs.declared.agenda.Agenda.{Agenda}
use Rattle.sas_axioms.specs.declared.firing.Work.{Work}
use Rattle.sas_axioms.specs.declared.layer_rules.LayerRule.{LayerRule}
use Rattle.sas_axioms.specs.Agenda.{IsOnAgenda, IsAwaited, IsOrdered, NoLowerLayer, AreBehind, work_left}
use Rattle.sas_axioms.specs.Conditions.{AreCounted}
use Rattle.sas_axioms.specs.LayerRules.{IsRuleOn}
use Rattle.sas_axioms.specs.Sources.{IsHolding, HaveSources, SourcesHold, AreGiven}

-- the rule has a condition on the variable
abbrev pub AsksAbout : Parts → ℕ → ℕ → Type 0
AsksAbout p var rule = (c : Fact) × Contains (rule_at p rule).conditions c × (c.var ≡ var)

-- on this layer and higher ones, each rule that holds in exactly one of the two states is noted
abbrev pub ChangesAreNoted : Parts → ℕ → List ℕ → List ℕ → Agenda → Type 0
ChangesAreNoted p from s s' a = (layer rule : ℕ) → from ≤ layer → IsRuleOn p layer rule
    → IsOnAgenda a layer rule ⊎ (IsHolding p s rule ↔ IsHolding p s' rule)

-- on this layer and higher ones, the derived variables have the same values in both states
abbrev pub SameFrom : Parts → ℕ → List ℕ → List ℕ → Type 0
SameFrom p from s s' = (layer var : ℕ) → from ≤ layer → IsOnLayer p layer var
    → slice_index s var ≡ slice_index s' var

-- layer, stack and sizes are unchanged
pub record KeepsRoom (w w' : Work) : Type 0 where
  pub layer : w'.layer ≡ w.layer
  pub stack : w'.stack ≡ w.stack
  pub one_each : length w'.counters ≡ length w.counters
  pub sources : length w'.sources ≡ length w.sources

-- layer, stack, sizes and sources are unchanged
pub record SameWork (w w' : Work) : Type 0 where
  pub layer : w'.layer ≡ w.layer
  pub stack : w'.stack ≡ w.stack
  pub one_each : length w'.counters ≡ length w.counters
  pub sources : w'.sources ≡ w.sources

-- variables of the task were added to the list, so that those with other values in s' than in s are
-- on it
pub record AddsChanged (p : Parts) (s s' list list' : List ℕ) : Type 0 where
  pub keeps : (var : ℕ) → Contains list var → Contains list' var
  pub exist : All (λ var. var < length p.variables) list
      → All (λ var. var < length p.variables) list'
  pub each : (var : ℕ) → (slice_index s' var ≡ slice_index s var) ⊎ Contains list' var

-- more rules are noted, and each of the new ones satisfies `May`
pub record NotesMore (p : Parts) (May : ℕ → Type 0) (a a' : Agenda) : Type 0 where
  pub keeps : (layer rule : ℕ) → IsOnAgenda a layer rule → IsOnAgenda a' layer rule
  pub only : All (λ (e : Reverse LayerRule). Contains (heap_items a.noted) e
      ⊎ (IsRuleOn p e.0.layer e.0.rule × May e.0.rule)) (heap_items a'.noted)
  pub ordered : IsOrdered a'
  pub ready : a'.ready ≡ a.ready

-- the counter of the rule is now n, and the rule is noted if either its old or its new counter is
-- 0, but not both
pub record CountsTo (p : Parts) (rule n : ℕ) (w w' : Work) : Type 0 where
  pub counters : w'.counters ≡ slice_set w.counters rule n
  pub crossed : (layer : ℕ) → IsRuleOn p layer rule
      → IsOnAgenda w'.agenda layer rule ⊎ ((slice_index w.counters rule ≡ 0) ↔ (n ≡ 0))
  pub notes : NotesMore p (λ r. r ≡ rule) w.agenda w'.agenda
  pub left : work_left w'.agenda ≤ work_left w.agenda + 2

-- a variable changed: the counters are those of the new state, and rules that hold in exactly one
-- of the states are noted
pub record CountsChange (p : Parts) (var : ℕ) (s : List ℕ) (w : Work) (s' : List ℕ) (w' : Work)
    : Type 0 where
  pub counts : AreCounted p s' w'.counters
  pub crossed : ChangesAreNoted p 0 s s' w'.agenda
  pub notes : NotesMore p (AsksAbout p var) w.agenda w'.agenda
  pub left : work_left w'.agenda ≤ work_left w.agenda

-- counters and noted rules fit the state, and no rule of a lower layer is noted
pub record IsOnTrack (p : Parts) (layer : ℕ) (s : List ℕ) (w : Work) : Type 0 where
  pub state : IsState p.variables s
  pub counts : AreCounted p s w.counters
  pub places : length w.sources ≡ length p.variables
  pub ordered : IsOrdered w.agenda
  pub noted : All (λ (e : Reverse LayerRule). IsRuleOn p e.0.layer e.0.rule)
      (heap_items w.agenda.noted)
  pub from : NoLowerLayer layer w.agenda
  pub ready : All (λ rule. IsRuleOn p layer rule) w.agenda.ready.items

-- On this layer and higher ones, s has the derived values of the settled state s0, whose sources
-- hold in s0, and the rules that hold in exactly one of s0 and s are noted. On each layer, variables
-- that differ from their defaults have sources.
pub record IsUpdatedTo (p : Parts) (layer : ℕ) (s0 s : List ℕ) (w : Work) : Type 0 where
  pub settled : IsSettled p s0
  pub same : SameFrom p layer s0 s
  pub noted : ChangesAreNoted p layer s0 s w.agenda
  pub have : (m : ℕ) → HaveSources p m s w.sources
  pub held : (m : ℕ) → layer ≤ m → SourcesHold p m w.sources s s0

-- The task is layered. Layers below `layer` are settled in s, and the others are as in s0.
pub record IsBetween (p : Parts) (s0 : List ℕ) (layer : ℕ) (s : List ℕ) (w : Work) : Type 0 where
  pub layered : IsLayered p
  pub track : IsOnTrack p layer s w
  pub to : IsUpdatedTo p layer s0 s w
  pub below : (m : ℕ) → m < layer → IsSettledAt p m s
  pub hold : (m : ℕ) → m < layer → SourcesHold p m w.sources s s
  pub empty : w.agenda.ready.items ≡ []

-- Some variables of the current layer have been reset to their defaults. The sources of the others
-- hold or are noted. Each rule that holds has set its variable, or is noted or ready.
pub record IsFalling (p : Parts) (s0 s : List ℕ) (w : Work) : Type 0 where
  pub track : IsOnTrack p w.layer s w
  pub to : IsUpdatedTo p (w.layer + 1) s0 s w
  pub sources : (var : ℕ) → IsOnLayer p w.layer var → IsTrue (differs p s var)
      → IsHolding p s (slice_index w.sources var)
      ⊎ IsOnAgenda w.agenda w.layer (slice_index w.sources var)
  pub fired : (rule : ℕ) → IsRuleOn p w.layer rule → IsHolding p s rule
      → IsTrue (differs p s (rule_at p rule).var) ⊎ IsAwaited w.agenda w.layer rule

-- Each variable of the current layer that differs from its default was set by its source, which
-- holds. Each rule that holds has set its variable, or is noted or ready.
pub record IsRising (p : Parts) (s0 s : List ℕ) (w : Work) : Type 0 where
  pub track : IsOnTrack p w.layer s w
  pub to : IsUpdatedTo p (w.layer + 1) s0 s w
  pub hold : SourcesHold p w.layer w.sources s s
  pub fired : (rule : ℕ) → IsRuleOn p w.layer rule → IsHolding p s rule
      → IsTrue (differs p s (rule_at p rule).var) ⊎ IsAwaited w.agenda w.layer rule

-- none of the rules of the current layer is noted or ready any more
pub record HasRisen (p : Parts) (s0 s : List ℕ) (w : Work) : Type 0 where
  pub rising : IsRising p s0 s w
  pub behind : AreBehind w.layer w.agenda
  pub empty : w.agenda.ready.items ≡ []

-- the task is layered, the state is settled, the counters are those of the state, and each derived
-- variable that differs from its default was set by its source
pub record IsFollowed (p : Parts) (s : List ℕ) (w : Work) : Type 0 where
  pub layered : IsLayered p
  pub state : IsState p.variables s
  pub settled : IsSettled p s
  pub counts : AreCounted p s w.counters
  pub places : length w.sources ≡ length p.variables
  pub given : (layer : ℕ) → AreGiven p layer s w.sources

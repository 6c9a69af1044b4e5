-- Steps: how an operator leads from a state to the next state.
use Rattle.std.specs.Prelude.{◌≡◌, ◌≢◌, ℕ, List, ◌++◌, All, slice_index, filter_map, Option, option_map}
use Rattle.sas_core.specs.declared.parts.Fact.{Fact}
use Rattle.sas_core.specs.declared.parts.Effect.{Effect}
use Rattle.sas_core.specs.declared.parts.Operator.{Operator}
use Rattle.sas_core.specs.declared.parts.Parts.{Parts}
use Rattle.sas_core.specs.Variables.{IsState}
use Rattle.sas_meaning.specs.States.{AllHold}
use Rattle.sas_meaning.specs.Layers.{IsBasic}
use Rattle.sas_meaning.specs.Settled.{IsSettled}

-- the old value that an effect requires, as a fact
abbrev pub old_fact : Effect → Option Fact
old_fact e = option_map (λ (value : ℕ). record { var = e.var; value = value }) e.old

-- the preconditions: the prevail conditions and the old values of all effects, even of those that
-- don't fire
abbrev pub preconditions : Operator → List Fact
preconditions o = o.prevail ++ filter_map old_fact o.effects

-- an effect fires if its conditions hold
abbrev pub Fires : List ℕ → Effect → Type 0
Fires s e = AllHold (slice_index s) e.conditions

-- No two effects that fire set a variable to different values. If two effects conflict, the
-- operator has no step. In a planner in which the last effect wins, it has one, so that planner may
-- reach states that are not reachable here.
abbrev pub Agree : List ℕ → List Effect → Type 0
Agree s effects = All (λ (e : Effect). All (λ (f : Effect). Fires s e → Fires s f
    → e.var ≡ f.var → e.new ≡ f.new) effects) effects

-- the operator leads from s to s'
pub record Step (p : Parts) (s : List ℕ) (o : Operator) (s' : List ℕ) : Type 0 where
  -- the operator is applicable: its preconditions hold in s
  pub applicable : AllHold (slice_index s) (preconditions o)
  -- the effects that fire in s agree; `set` implies this, too
  pub agree : Agree s o.effects
  -- s' is a settled state of the task
  pub state : IsState p.variables s'
  pub settled : IsSettled p s'
  -- the variable of each effect that fires has its new value
  pub set : All (λ (e : Effect). Fires s e → slice_index s' e.var ≡ e.new) o.effects
  -- a basic variable that no firing effect sets keeps its value
  pub kept : (var : ℕ) → IsBasic p var → All (λ (e : Effect). Fires s e → e.var ≢ var) o.effects
      → slice_index s' var ≡ slice_index s var

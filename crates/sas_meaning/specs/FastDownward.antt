-- Steps of Fast Downward's search. They are those of `Step`, but for effects that fire and set one
-- variable to different values: the last of them in the file counts, and there is a step.
use Rattle.std.specs.Prelude.{◌≡◌, ◌≢◌, ℕ, ◌<◌, List, length, All, Contains, slice_index}
use Rattle.sas_core.specs.declared.parts.Effect.{Effect}
use Rattle.sas_core.specs.declared.parts.Operator.{Operator}
use Rattle.sas_core.specs.declared.parts.Parts.{Parts}
use Rattle.sas_core.specs.Grounded.{effect_at}
use Rattle.sas_core.specs.Variables.{IsState}
use Rattle.sas_meaning.specs.States.{AllHold}
use Rattle.sas_meaning.specs.Layers.{IsBasic}
use Rattle.sas_meaning.specs.Settled.{IsSettled}
use Rattle.sas_meaning.specs.Steps.{preconditions, Fires, Agree}
use Rattle.sas_meaning.specs.Reachable.{Reachable}
use Rattle.sas_meaning.specs.InitialStates.{IsInitial}

-- the effect fires in s, and no later one that fires is on its variable
pub record FiresLast (s : List ℕ) (o : Operator) (effect : ℕ) : Type 0 where
  pub exists : effect < length o.effects
  pub fires : Fires s (effect_at o effect)
  pub last : (later : ℕ) → effect < later → later < length o.effects
      → Fires s (effect_at o later) → (effect_at o later).var ≢ (effect_at o effect).var

-- the operator's effects that fire in s lead to s', whether its preconditions hold or not
pub record ForcedStep (p : Parts) (s : List ℕ) (o : Operator) (s' : List ℕ) : Type 0 where
  -- s' is a settled state of the task
  pub state : IsState p.variables s'
  pub settled : IsSettled p s'
  -- a basic variable has the value that the last effect that fires on it sets
  pub set : (effect : ℕ) → IsBasic p (effect_at o effect).var → FiresLast s o effect
      → slice_index s' (effect_at o effect).var ≡ (effect_at o effect).new
  -- a basic variable that no firing effect sets keeps its value
  pub kept : (var : ℕ) → IsBasic p var → All (λ (e : Effect). Fires s e → e.var ≢ var) o.effects
      → slice_index s' var ≡ slice_index s var

-- the operator leads from s to s' in Fast Downward's search
pub record FastDownwardStep (p : Parts) (s : List ℕ) (o : Operator) (s' : List ℕ) : Type 0 where
  -- its preconditions hold in s; they are those of `Step`
  pub applicable : AllHold (slice_index s) (preconditions o)
  -- its effects lead to s'
  pub forced : ForcedStep p s o s'

-- the states that Fast Downward's search can reach
pub data FastDownwardReachable (p : Parts) : List ℕ → Type 0 where
  Start : {s : List ℕ} → IsInitial p s → FastDownwardReachable p s
  Onward : {s s' : List ℕ} (o : Operator) → FastDownwardReachable p s → Contains p.operators o
      → FastDownwardStep p s o s' → FastDownwardReachable p s'

-- in no reachable state an operator whose preconditions hold has two effects that fire and disagree
abbrev pub AlwaysAgree : Parts → Type 0
AlwaysAgree p = (s : List ℕ) (o : Operator) → Reachable p s → Contains p.operators o
    → AllHold (slice_index s) (preconditions o) → Agree s o.effects

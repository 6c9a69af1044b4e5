-- Reachable states of a task.
use Rattle.std.specs.Prelude.{ℕ, List, Contains}
use Rattle.sas_core.specs.declared.parts.Operator.{Operator}
use Rattle.sas_core.specs.declared.parts.Parts.{Parts}
use Rattle.sas_meaning.specs.Steps.{Step}
use Rattle.sas_meaning.specs.InitialStates.{IsInitial}

-- a state is reachable if it is the initial state or if a step leads to it from a reachable state
pub data Reachable (p : Parts) : List ℕ → Type 0 where
  Initial : {s : List ℕ} → IsInitial p s → Reachable p s
  Next : {s s' : List ℕ} (o : Operator) → Reachable p s → Contains p.operators o → Step p s o s'
      → Reachable p s'

-- Plans by numbers: each step is the operator with that number. No name is looked up. They start in
-- the initial state, or in any other.
use Rattle.std.specs.Prelude.{◌≡◌, ℕ, ◌<◌, List, [], ◌∷◌, length, slice_index}
use Rattle.sas_core.specs.declared.parts.Operator.{Operator}
use Rattle.sas_core.specs.declared.parts.Parts.{Parts}
use Rattle.sas_core.specs.Grounded.{operator_at}
use Rattle.sas_meaning.specs.States.{AllHold}
use Rattle.sas_meaning.specs.Steps.{Step}
use Rattle.sas_meaning.specs.Settled.{Settles}
use Rattle.sas_run.specs.Plans.{cost_of_all}

-- the operators with these numbers exist, and lead from the state s, one after another, to `last`;
-- `IsStep` says how one leads to the next state
abbrev pub OperatorsLead : Parts → (List ℕ → Operator → List ℕ → Type 0) → List ℕ → List ℕ
    → List ℕ → Type 0
OperatorsLead p IsStep s [] last = last ≡ s
OperatorsLead p IsStep s (operator ∷ operators) last = (next : List ℕ)
    × (operator < length p.operators)
    × IsStep s (operator_at p operator) next
    × OperatorsLead p IsStep next operators last

-- they lead there by steps
abbrev pub GoThrough : Parts → List ℕ → List ℕ → List ℕ → Type 0
GoThrough p = OperatorsLead p (Step p)

-- they lead to `last` from the settled state with the basic values of the state s
pub record GoesThroughFrom (p : Parts) (s operators last : List ℕ) : Type 0 where
  pub initial : List ℕ
  pub starts : Settles p s initial
  pub goes : GoThrough p initial operators last

-- they lead to `last` from the initial state
abbrev pub GoesThrough : Parts → List ℕ → List ℕ → Type 0
GoesThrough p = GoesThroughFrom p p.init

-- Valid by numbers from the state s: from the settled state with its basic values, the operators
-- with these numbers lead to a state in which the goal holds, and their costs add up to this cost.
pub record IsValidFrom (p : Parts) (s operators : List ℕ) (cost : ℕ) : Type 0 where
  pub last : List ℕ
  pub through : GoesThroughFrom p s operators last
  pub goal : AllHold (slice_index last) p.goal
  pub costs : cost_of_all p operators ≡ cost

-- valid by numbers: from the initial state
abbrev pub IsValidByNumbers : Parts → List ℕ → ℕ → Type 0
IsValidByNumbers p = IsValidFrom p p.init

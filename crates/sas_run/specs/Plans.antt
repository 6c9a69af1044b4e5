-- How a plan is executed, and which plans are valid.
use Rattle.std.specs.Prelude.{◌≡◌, ℕ, ◌<◌, List, [], ◌∷◌, slice_index, sum_by}
use Rattle.sas_core.specs.declared.parts.Operator.{Operator}
use Rattle.sas_core.specs.declared.parts.Parts.{Parts}
use Rattle.sas_core.specs.Grounded.{operator_at}
use Rattle.sas_core.specs.PlanParts.{PlanParts}
use Rattle.sas_core.specs.Tasks.{cost_of}
use Rattle.sas_meaning.specs.States.{AllHold}
use Rattle.sas_meaning.specs.Steps.{preconditions, Step}
use Rattle.sas_meaning.specs.InitialStates.{IsInitial}
use Rattle.sas_names.specs.Named.{IsNamed}

-- an operator is applicable in a state if its preconditions hold there
abbrev pub IsApplicable : List ℕ → Operator → Type 0
IsApplicable s o = AllHold (slice_index s) (preconditions o)

-- no operator of this name is applicable in the state
abbrev pub NoneApplicable : Parts → List ℕ → List ℕ → Type 0
NoneApplicable p s name = (operator : ℕ) → IsNamed p name operator
    → IsApplicable s (operator_at p operator) → ⊥

-- A step of a plan means the lowest-numbered applicable operator of exactly that name. No later
-- operator is tried, even if the effects of this one conflict.
pub record IsChosen (p : Parts) (s name : List ℕ) (operator : ℕ) : Type 0 where
  pub of_name : IsNamed p name operator
  pub applicable : IsApplicable s (operator_at p operator)
  pub first : (lower : ℕ) → lower < operator → IsNamed p name lower
      → IsApplicable s (operator_at p lower) → ⊥

-- the named steps are executable from the state s, by these operators, and lead to the state `last`
abbrev pub LeadFrom : Parts → List ℕ → List (List ℕ) → List ℕ → List ℕ → Type 0
LeadFrom p s [] [] last = last ≡ s
LeadFrom p s (name ∷ names) (operator ∷ operators) last = (next : List ℕ)
    × IsChosen p s name operator
    × Step p s (operator_at p operator) next
    × LeadFrom p next names operators last
LeadFrom p s [] (operator ∷ operators) last = ⊥
LeadFrom p s (name ∷ names) [] last = ⊥

-- the named steps are executable from the initial state, by these operators, and lead to `last`
pub record LeadsTo (p : Parts) (steps : List (List ℕ)) (operators last : List ℕ) : Type 0 where
  pub initial : List ℕ
  pub starts : IsInitial p initial
  pub goes : LeadFrom p initial steps operators last

-- the sum of the operators' costs
abbrev pub cost_of_all : Parts → List ℕ → ℕ
cost_of_all p operators = sum_by (cost_of p) operators

-- A plan is valid if its steps lead from the initial state to a state in which the goal holds, and
-- the costs of their operators add up to the plan's cost.
pub record IsValid (p : Parts) (plan : PlanParts) (operators : List ℕ) : Type 0 where
  pub last : List ℕ
  pub leads : LeadsTo p plan.steps operators last
  pub goal : AllHold (slice_index last) p.goal
  pub cost : cost_of_all p operators ≡ plan.cost

-- The operators of some names, each with the next operator of the same name.
use Rattle.std.specs.Prelude.{◌≡◌, ℕ, ◌+◌, ◌<◌, List, length, Option, None, Some, slice_index, slice_index_or}
use Rattle.sas_core.specs.declared.parts.Parts.{Parts}
use Rattle.sas_core.specs.Grounded.{operator_at}
use Rattle.sas_names.specs.declared.step_names.StepNames.{StepNames}
use Rattle.sas_names.specs.declared.step_operators.StepOperators.{StepOperators}
use Rattle.sas_names.specs.Names.{IsNextNamed, existing, AreFirsts}
use Rattle.sas_names.specs.Named.{IsNamed}
use Rattle.sas_names.specs.NameTable.{value_of}
use Rattle.sas_names.specs.StepNames.{step_names}

-- for each operator with the name of `first`, the list has the next operator of this name
abbrev pub IsChain : Parts → ℕ → List (Option ℕ) → Type 0
IsChain p first nexts = (operator : ℕ) → IsNamed p (operator_at p first).name operator
    → IsNextNamed p (operator_at p first).name (operator + 1) (slice_index_or nexts operator None)

-- `IsChain` for each of these numbers that is one of an operator
abbrev pub HaveChains : Parts → List ℕ → List (Option ℕ) → Type 0
HaveChains p firsts nexts = (step : ℕ) → step < length firsts
    → slice_index firsts step < length p.operators → IsChain p (slice_index firsts step) nexts

-- The lowest operator of each step's name, if any. For each operator of one of these names, the list
-- has the next one.
pub record AreStepOperators (p : Parts) (steps : List (List ℕ)) (lowest : List ℕ)
    (nexts : List (Option ℕ)) : Type 0 where
  pub firsts : AreFirsts p steps lowest
  pub chains : HaveChains p lowest nexts

-- the same, but the lowest operator of a name stands at the number of the name
pub record AreChains (p : Parts) (steps : List (List ℕ)) (names : StepNames) (found : StepOperators)
    : Type 0 where
  pub one_each : length found.firsts.items ≡ length steps
  pub first : (name : List ℕ) (k : ℕ)
      → value_of (step_names steps) names.numbers name ≡ Some k
      → IsNextNamed p name 0 (existing p (slice_index found.firsts.items k))
  pub next : (operator k : ℕ) → operator < length p.operators
      → value_of (step_names steps) names.numbers (operator_at p operator).name ≡ Some k
      → IsNextNamed p (operator_at p operator).name (operator + 1)
      (slice_index_or found.nexts.items operator None)

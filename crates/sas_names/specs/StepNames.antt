-- The names of a plan's steps, numbered.
use Rattle.std.specs.Prelude.{◌≡◌, ℕ, ◌<◌, List, [], length, Some, slice_index, slice_index_or}
use Rattle.sas_names.specs.declared.name_table.NameTable.{NameTable}
use Rattle.sas_names.specs.declared.step_names.StepNames.{StepNames}
use Rattle.sas_names.specs.NameTable.{Exist, value_of}
use Rattle.sas_names.specs.Shapes.{HaveShapes}

-- the name of each step
abbrev pub step_names : List (List ℕ) → ℕ → List ℕ
step_names steps step = slice_index_or steps step []

-- the number of a name is a step with this name
pub record AreStepsOf (steps : List (List ℕ)) (table : NameTable ℕ) : Type 0 where
  pub exist : Exist (λ step. step < length steps) table
  pub below : (name : List ℕ) (k : ℕ) → value_of (step_names steps) table name ≡ Some k
      → k < length steps
  pub named : (name : List ℕ) (k : ℕ) → value_of (step_names steps) table name ≡ Some k
      → step_names steps k ≡ name

-- the name has this number now; names that had a number keep it
pub record Numbers (steps : List (List ℕ)) (name : List ℕ) (number : ℕ) (old new : NameTable ℕ)
    : Type 0 where
  pub is : value_of (step_names steps) new name ≡ Some number
  pub kept : (other : List ℕ) (k : ℕ) → value_of (step_names steps) old other ≡ Some k
      → value_of (step_names steps) new other ≡ Some k
  pub numbers : AreStepsOf steps new

-- the number of the name of each of the first steps
abbrev pub HaveNumbers : List (List ℕ) → NameTable ℕ → List ℕ → Type 0
HaveNumbers steps table of_steps = (step : ℕ) → step < length of_steps
    → value_of (step_names steps) table (step_names steps step)
    ≡ Some (slice_index of_steps step)

-- the numbered names of these steps, and their shapes
pub record AreStepNames (steps : List (List ℕ)) (names : StepNames) : Type 0 where
  pub numbers : AreStepsOf steps names.numbers
  pub one_each : length names.of_steps.items ≡ length steps
  pub each : HaveNumbers steps names.numbers names.of_steps.items
  pub shapes : HaveShapes steps names.shapes.items

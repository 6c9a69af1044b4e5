-- What follows from the definitions: each reason exists, is unique, and isn't circular; and what a
-- trace prints.
use Rattle.std.specs.Prelude.{◌≡◌, ◌≢◌, ◌⊎◌, ℕ, ◌<◌, List, length, Option, Some, None, slice_index, ◌+◌, zero, suc, map, fold, slice_set}
use Rattle.std.specs.List.{range_with_len}
use Rattle.std.specs.List.Sorted.{IsPermutation}
use Rattle.sas_core.specs.declared.parts.Parts.{Parts}
use Rattle.sas_core.specs.declared.parts.Fact.{Fact}
use Rattle.sas_core.specs.Grounded.{operator_at}
use Rattle.sas_meaning.specs.Layers.{IsOnLayer, default_of}
use Rattle.sas_run.specs.Runs.{Run, state_at}
use Rattle.sas_plan_reasons.specs.Lowest.{IsLowest}
use Rattle.sas_plan_reasons.specs.Words.{words}
use Rattle.sas_plan_reasons.specs.Derivation.{IsRuleOf, StandsBefore}
use Rattle.sas_plan_reasons.specs.Trace.{changed}

-- ---- similar names

-- the operator's name has the words of this name in the same order
pub record IsAlike (p : Parts) (name : List ℕ) (operator : ℕ) : Type 0 where
  pub exists : operator < length p.operators
  pub alike : words (operator_at p operator).name ≡ words name

-- it has them in some order
pub record IsPermuted (p : Parts) (name : List ℕ) (operator : ℕ) : Type 0 where
  pub exists : operator < length p.operators
  pub permuted : IsPermutation (words name) (words (operator_at p operator).name)

-- the lowest operator of the first kind, or, where there is none, of the second
abbrev pub IsSimilar : Parts → List ℕ → Option ℕ → Type 0
IsSimilar p name (Some operator) = IsLowest (IsAlike p name) operator
    ⊎ (((other : ℕ) → IsAlike p name other → ⊥) × IsLowest (IsPermuted p name) operator)
IsSimilar p name None = (other : ℕ) → IsPermuted p name other → ⊥

-- the lowest number with the property, or `None` if no number has it
abbrev pub IsLowestIfAny : (ℕ → Type 0) → Option ℕ → Type 0
IsLowestIfAny Has (Some n) = IsLowest Has n
IsLowestIfAny Has None = (n : ℕ) → Has n → ⊥

-- ---- why a derived variable has its value, in a settled state of a layered task

-- a condition requires the default of a variable on a lower layer
pub record RequiresLower (p : Parts) (var : ℕ) (condition : Fact) : Type 0 where
  pub default : condition.value ≡ default_of p condition.var
  pub here : ℕ
  pub there : ℕ
  pub on : IsOnLayer p here var
  pub on_there : IsOnLayer p there condition.var
  pub lower : there < here

-- a condition requires a value other than the default of a variable whose rule stands before this
-- one
pub record RestsOnEarlier (p : Parts) (order : List ℕ) (rule : ℕ) (condition : Fact)
    : Type 0 where
  pub other : condition.value ≢ default_of p condition.var
  pub earlier : ℕ
  pub is : IsRuleOf p order condition.var earlier
  pub before : StandsBefore order earlier rule

-- ---- traces

-- the values that a reader of a trace has after the first k steps: those of the initial lines,
-- with the changes written over them in turn
abbrev pub replayed : Parts → Run → ℕ → List ℕ
replayed p run zero =
    map (slice_index (state_at run 0)) (range_with_len 0 (length p.variables))
replayed p run (suc k) =
    fold (λ s var. slice_set s var (slice_index (state_at run (k + 1)) var)) (replayed p run k)
    (changed p (state_at run k) (state_at run (k + 1)))

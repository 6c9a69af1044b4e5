-- What else a step may mean: an operator with a similar name, or another one of its name.
use Rattle.std.specs.Prelude.{◌≡◌, ℕ, ◌+◌, ◌<◌, List, [], length, position}
use Rattle.std.specs.Prelude.{bytes_eq, slice_index, slice_index_or, Option}
use Rattle.std.specs.Cmp.Lexicographic.{pointwise}
use Rattle.std.specs.Option.{option_or}
use Rattle.sas_core.specs.declared.parts.Operator.{Operator}
use Rattle.sas_core.specs.declared.parts.Parts.{Parts}
use Rattle.sas_core.specs.Grounded.{operator_at}
use Rattle.sas_names.specs.Named.{IsNamed}
use Rattle.sas_run.specs.Plans.{IsApplicable}
use Rattle.sas_run.specs.Runs.{Run, state_at}
use Rattle.sas_plan_reasons.specs.Lowest.{AreLowest}
use Rattle.sas_plan_reasons.specs.Words.{words, are_permuted}

-- the lowest operator whose name has the words of this name in the same order; if there is none, the
-- lowest whose name has them in some order
abbrev pub similar_operator : Parts → List ℕ → Option ℕ
similar_operator p name = option_or
    (position (λ (o : Operator). pointwise bytes_eq (words o.name) (words name)) p.operators)
    (position (λ (o : Operator). are_permuted (words name) (words o.name)) p.operators)

-- A step means the lowest applicable operator of its name. This operator is above that of step
-- k + 1, has the same name, and is applicable in the state before the step, too.
pub record IsOther (p : Parts) (run : Run) (k operator : ℕ) : Type 0 where
  pub exists : k < length run.steps
  pub above : slice_index run.operators k < operator
  pub of_name : IsNamed p (slice_index_or run.steps k []) operator
  pub applicable : IsApplicable (state_at run k) (operator_at p operator)

-- the first step of the run, counted from 1, that has such an operator, and the lowest one
abbrev pub MayMean : Parts → Run → ℕ → ℕ → Type 0
MayMean p run step operator = (before : ℕ) × (step ≡ before + 1)
    × AreLowest (IsOther p run) before operator

-- none of these operators has another of its name above it
abbrev pub HaveNoNamesakes : Parts → List ℕ → Type 0
HaveNoNamesakes p operators = (k later : ℕ) → k < length operators → slice_index operators k < later
    → IsNamed p (operator_at p (slice_index operators k)).name later → ⊥

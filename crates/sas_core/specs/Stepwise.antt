-- The contents of a plan, step by step.
use Rattle.std.specs.Prelude.{ℕ, List, [], slice_index_or}
use Rattle.sas_core.specs.PlanParts.{PlanParts}

-- the name of the step with this index; past the last step, no bytes
abbrev pub step_at : PlanParts → ℕ → List ℕ
step_at p index = slice_index_or p.steps index []

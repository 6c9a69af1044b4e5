-- The promise of `plan`.
--
-- Consider a run that ends with an answer: there is enough memory, no read or write fails, and no
-- input exceeds the limit. It prints `plan valid` exactly if the two inputs are texts of a layered
-- task and of a plan whose steps, each by the first applicable operator of its name, lead from the
-- initial state to a goal state at the printed cost.
use Rattle.std.specs.Prelude.{◌≡◌, ◌↔◌, ℕ, List, length}
use Rattle.sas_core.specs.declared.parts.Parts.{Parts}
use Rattle.sas_core.specs.PlanParts.{PlanParts}
use Rattle.sas_meaning.specs.Layers.{IsLayered}
use Rattle.sas_reader.specs.Texts.{Reads}
use Rattle.sas_plan_file.specs.PlanTexts.{plan_texts}
use Rattle.sas_task_file.specs.TaskTexts.{task_texts}
use Rattle.sas_run.specs.Plans.{IsValid}
use Rattle.sas_answers.specs.declared.ending.Status.{Status}
use Rattle.sas_answers.specs.declared.ending.Status.TheVariants.{Yes}
use Rattle.sas_answers.specs.ValidLine.{valid_line}

-- The bytes b are a text of a layered task, and the bytes c are a text of a plan that is valid for
-- it. The line has the number of the plan's steps and its cost.
pub record Solves (b c line : List ℕ) : Type 0 where
  pub task : Parts
  pub plan : PlanParts
  pub operators : List ℕ
  pub is_task : Reads task_texts b task
  pub layered : IsLayered task
  pub is_plan : Reads plan_texts c plan
  pub valid : IsValid task plan operators
  pub printed : line ≡ valid_line (length plan.steps) plan.cost

-- The promise of a run that judged the bytes c as a plan for the task b and ended with this status.
-- `Sent` holds for the bytes written.
pub record Headline (b c : List ℕ) (Sent : List ℕ → Type 0) (status : Status) : Type 0 where
  -- `plan valid: S steps, cost C` was written exactly if it is true of the inputs
  pub line : (steps cost : ℕ) → Sent (valid_line steps cost) ↔ Solves b c (valid_line steps cost)
  -- the status is yes exactly if this holds for some S and C
  pub yes : (status ≡ Yes) ↔ ((steps cost : ℕ) × Solves b c (valid_line steps cost))

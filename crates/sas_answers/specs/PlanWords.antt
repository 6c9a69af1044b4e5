-- The words for why a plan doesn't solve a task.
use Rattle.std.specs.Prelude.{ℕ, List, ◌++◌, codes, decimal, Option, Some, None}
use Rattle.sas_run.specs.declared.plan_check.PlanFault.{PlanFault}
use Rattle.sas_run.specs.declared.plan_check.PlanFault.TheVariants.{Memory, NoOperator, NotApplicable, Conflict, GoalMissed, CostDiffers}

-- `step S: WHAT`, where S is the step's number, counted from 1
abbrev pub step_words : ℕ → List ℕ → List ℕ
step_words step what = codes "step " ++ decimal step ++ codes ": " ++ what

-- `goal fact I not reached`, where I is the fact's place in the goal
abbrev pub goal_words : ℕ → List ℕ
goal_words index = codes "goal fact " ++ decimal index ++ codes " not reached"

-- `cost is SUM, not COST`
abbrev pub sum_words : ℕ → ℕ → List ℕ
sum_words sum cost = codes "cost is " ++ decimal sum ++ codes ", not " ++ decimal cost

-- the words for a fault of a plan with this cost; refused memory is no fault of the plan
abbrev pub fault_words : ℕ → PlanFault → Option (List ℕ)
fault_words cost (NoOperator step) = Some (step_words step (codes "no operator of that name"))
fault_words cost (NotApplicable step) = Some (step_words step (codes "not applicable"))
fault_words cost (Conflict step operator) = Some (step_words step (codes "conflicting effects"))
fault_words cost (GoalMissed index) = Some (goal_words index)
fault_words cost (CostDiffers sum) = Some (sum_words sum cost)
fault_words cost Memory = None

-- the line that reports why a plan isn't valid
abbrev pub invalid_line : List ℕ → List ℕ
invalid_line words = codes "plan invalid: " ++ words ++ codes "\n"

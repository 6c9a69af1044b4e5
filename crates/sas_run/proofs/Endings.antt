-- How a plan ends: at a step that fails, or after the last step.
use Rattle.sas_run.proofs.Imports.{◌≡◌, ℕ, ◌+◌, ◌-◌, ◌<◌, List, [], length, take, drop, get_or, Option, Some, None, sym, ◌∙◌, ap, subst, arith, take_all, Parts, PlanParts, PlanFault, Memory, NoOperator, NotApplicable, Conflict, GoalMissed, CostDiffers, LeadsTo, IsValid, IsFinalVerdict, IsChoice, StepFailsBy, IsEnding, Run, steps_before, RunEndsWith, ComesTo, IsFaultOf}
use Rattle.sas_run.proofs.Going.{around, length_of_take}
use Rattle.sas_run.proofs.Runs.{some_run}

-- the fault says why the step with this number and name fails in the state s
abbrev pub StepFails : Parts → List ℕ → List ℕ → ℕ → PlanFault → Type 0
StepFails p s name = StepFailsBy p (IsChoice p s name) s

-- if step k + 1 fails, that is the fault of the plan
module _ (p : Parts) (plan : PlanParts) (k : ℕ) (lt : k < length plan.steps) (operators s : List ℕ) (leads : LeadsTo p (take k plan.steps) operators s) where
  abbrev name : List ℕ
  name = get_or plan.steps k []

  comes : (step : ℕ) → step ≡ k + 1 → ComesTo p plan.steps step s name
  comes step is = record {
    before = take k plan.steps;
    behind = drop (k + 1) plan.steps;
    whole = around plan.steps k [] lt;
    place = is ∙ ap (λ n. n + 1) (sym (length_of_take plan.steps k lt));
    operators = operators;
    leads = leads;
  }

  at_step : (step : ℕ) → step ≡ k + 1 → take k plan.steps ≡ take (step - 1) plan.steps
  at_step step is = ap (λ n. take n plan.steps) (let e : k ≡ step - 1 = omega arith in e)

  stops : (fault : PlanFault) → StepFails p s name (k + 1) fault → IsFaultOf p plan fault × (take k plan.steps ≡ steps_before plan fault)
  stops (NoOperator step) (is, none) = ((s, name, comes step is, none), at_step step is)
  stops (NotApplicable step) (is, blocked) = ((s, name, comes step is, blocked.0, blocked.1), at_step step is)
  stops (Conflict step operator) (is, chosen, none) = ((s, name, comes step is, chosen, none), at_step step is)
  stops (GoalMissed index) why = absurd why
  stops (CostDiffers sum) why = absurd why
  stops Memory why = absurd why

  pub stops_there : (fault : PlanFault) → StepFails p s name (k + 1) fault → IsEnding p plan operators (Some fault)
  stops_there fault why =
      let w = some_run p (take k plan.steps) operators s leads in
      let made : length w.0.steps ≡ k = ap length w.2 ∙ length_of_take plan.steps k lt in
      let (is_fault, before) = stops fault why in
      (w.0, record { through = w.1; front = w.2 ∙ ap (λ n. take n plan.steps) (sym made) }, (is_fault, w.2 ∙ before), w.3)

-- after the last step the goal and the cost are tested
module _ (p : Parts) (plan : PlanParts) (operators s : List ℕ) (leads : LeadsTo p plan.steps operators s) where
  ends : (run : Run) → run.steps ≡ plan.steps → run.operators ≡ operators → (fault : Option PlanFault) → IsFinalVerdict p operators s plan.cost fault → RunEndsWith p plan run fault
  ends run whole by h1 is = grind arith

  pub judged_there : (fault : Option PlanFault) → IsFinalVerdict p operators s plan.cost fault → IsEnding p plan operators fault
  judged_there fault is =
      let w = some_run p plan.steps operators s leads in
      let front = w.2 ∙ sym (take_all (length w.0.steps) plan.steps (omega (arith, ap length w.2))) in
      (w.0, record { through = w.1; front = front }, ends w.0 w.2 w.3 fault is, w.3)

-- so the plan is valid, or it has this fault
pub ends_valid : (p : Parts) (plan : PlanParts) (operators : List ℕ) → IsEnding p plan operators None → IsValid p plan operators
ends_valid p plan operators w = subst (λ os. IsValid p plan os) w.3 w.2.0

pub ends_faulty : (p : Parts) (plan : PlanParts) (operators : List ℕ) (fault : PlanFault) → IsEnding p plan operators (Some fault) → IsFaultOf p plan fault
ends_faulty p plan operators fault w = w.2.0

-- The answers about plans by numbers, from the start that is given, with their traces.
use Rattle.std.specs.Prelude.{◌≡◌, ◌⊎◌, ℕ, ◌-◌, ◌++◌, List, take, Option, Some, None}
use Rattle.sas_core.specs.declared.parts.Parts.{Parts}
use Rattle.sas_lines.specs.Lines.{text}
use Rattle.sas_run.specs.declared.plan_check.PlanFault.{PlanFault}
use Rattle.sas_run.specs.declared.plan_check.PlanFault.TheVariants.{Memory, NoOperator, NotApplicable, Conflict, GoalMissed, CostDiffers}
use Rattle.sas_run.specs.declared.starts.StartFault.{StartFault}
use Rattle.sas_run.specs.ByNumbers.{IsValidFrom}
use Rattle.sas_run.specs.NumberFaults.{IsFaultFrom}
use Rattle.sas_run.specs.Runs.{Run, IsRunFrom}
use Rattle.sas_run.specs.Starts.{IsStart, IsStartFault, start_of}
use Rattle.sas_answers.specs.Ending.{Output}
use Rattle.sas_answers.specs.NumberedPlans.{AnswerFrom, start_refusal}
use Rattle.sas_plan_reasons.specs.Trace.{run_lines}

-- the operators that go through before this fault
abbrev pub operators_before : List ℕ → PlanFault → List ℕ
operators_before operators (NoOperator step) = take (step - 1) operators
operators_before operators (NotApplicable step) = take (step - 1) operators
operators_before operators (Conflict step operator) = take (step - 1) operators
operators_before operators (GoalMissed index) = operators
operators_before operators (CostDiffers sum) = operators
operators_before operators Memory = operators

-- the operators have this fault from the state s, after the steps of the run; or they are valid
-- from there, and these are all their steps
abbrev pub RunEndsFrom : Parts → List ℕ → List ℕ → ℕ → Run → Option PlanFault → Type 0
RunEndsFrom p s operators cost run (Some fault) = IsFaultFrom p s operators cost fault
    × (run.operators ≡ operators_before operators fault)
RunEndsFrom p s operators cost run None =
    IsValidFrom p s operators cost × (run.operators ≡ operators)

-- a run as far as the operators go through from the state s, and after its lines the answer about
-- them
pub record TraceFrom (p : Parts) (s operators : List ℕ) (cost : ℕ) (output : Output) : Type 0 where
  pub run : Run
  pub through : IsRunFrom p s run
  pub fault : Option PlanFault
  pub ends : RunEndsFrom p s operators cost run fault
  pub answer : Output
  pub answers : AnswerFrom p s operators cost answer
  pub whole : output.text ≡ text (run_lines p run) ++ answer.text
  pub status : output.status ≡ answer.status

-- this from the start that is given, or its refusal
abbrev pub RunTrace : Parts → List ℕ → List ℕ → ℕ → Output → Type 0
RunTrace p start operators cost output =
    (IsStart p start × TraceFrom p (start_of p start) operators cost output)
    ⊎ ((fault : StartFault) × IsStartFault p start fault × (output ≡ start_refusal fault))

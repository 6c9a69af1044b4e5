-- The answers about plans with their traces.
use Rattle.std.specs.Prelude.{◌≡◌, ◌⊎◌, Bool, true, false, ◌++◌, Some, None}
use Rattle.sas_core.specs.declared.parts.Parts.{Parts}
use Rattle.sas_core.specs.PlanParts.{PlanParts}
use Rattle.sas_lines.specs.Lines.{text}
use Rattle.sas_run.specs.declared.plan_check.PlanFault.{PlanFault}
use Rattle.sas_run.specs.Runs.{Run, StepsSucceed, RunEndsWith}
use Rattle.sas_answers.specs.declared.ending.Status.TheVariants.{No}
use Rattle.sas_answers.specs.Ending.{Output}
use Rattle.sas_answers.specs.Answers.{valid_answer, invalid_answer}
use Rattle.sas_plan_reasons.specs.Trace.{run_lines}
use Rattle.sas_plan_reasons.specs.Verdict.{Explains}

-- the answer about a plan with this fault: its verdict, and where reasons are reported, after it these
abbrev pub FaultAnswer : (reasons : Bool) → Parts → PlanParts → PlanFault → Output → Type 0
FaultAnswer false p plan fault output = invalid_answer plan.cost fault ≡ Some output
FaultAnswer true p plan fault output = Explains p plan fault output.text × (output.status ≡ No)

module _ (reasons : Bool) where
  -- how a plan ends after the steps of a run, and the answer about it
  abbrev pub EndsWith : Parts → PlanParts → Run → Output → Type 0
  EndsWith p plan run answer = (RunEndsWith p plan run None × (answer ≡ valid_answer plan))
      ⊎ ((fault : PlanFault) × RunEndsWith p plan run (Some fault)
      × FaultAnswer reasons p plan fault answer)

  -- the answer about a plan with its trace: the lines of the run of its steps that succeed, and
  -- after them the answer about it
  pub record TraceVerdict (p : Parts) (plan : PlanParts) (output : Output) : Type 0 where
    pub run : Run
    pub through : StepsSucceed p run
    pub answer : Output
    pub ends : EndsWith p plan run answer
    pub whole : output.text ≡ text (run_lines p run) ++ answer.text
    pub status : output.status ≡ answer.status

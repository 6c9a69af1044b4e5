-- The answers about plans with the reasons for a no.
use Rattle.std.specs.Prelude.{◌≡◌, ◌⊎◌, ℕ, List, ◌++◌, Some}
use Rattle.sas_core.specs.declared.parts.Parts.{Parts}
use Rattle.sas_core.specs.PlanParts.{PlanParts}
use Rattle.sas_run.specs.declared.plan_check.PlanFault.{PlanFault}
use Rattle.sas_run.specs.Plans.{IsValid}
use Rattle.sas_run.specs.Verdicts.{IsFaultOf}
use Rattle.sas_answers.specs.declared.answer.Answer.{Answer}
use Rattle.sas_answers.specs.declared.ending.Status.TheVariants.{No}
use Rattle.sas_answers.specs.Ending.{Output}
use Rattle.sas_answers.specs.Answers.{valid_answer, invalid_answer}
use Rattle.sas_answers.specs.declared.line.Line.{Line}
use Rattle.sas_answers.specs.Line.{reasons_text}
use Rattle.sas_plan_reasons.specs.WhyPlan.{IsWhy}

-- the text of the answer about a plan with this fault: its verdict, and after it the reasons
pub record Explains (p : Parts) (plan : PlanParts) (fault : PlanFault) (bytes : List ℕ)
    : Type 0 where
  pub verdict : Output
  pub reported : invalid_answer plan.cost fault ≡ Some verdict
  pub reasons : List Line
  pub why : IsWhy p plan fault reasons
  pub whole : bytes ≡ verdict.text ++ reasons_text p plan.steps reasons

-- the answer about a plan, with reasons: that it is valid for the task, or else its fault and why
abbrev pub WhyVerdict : Parts → PlanParts → Output → Type 0
WhyVerdict p plan output =
    (((operators : List ℕ) × IsValid p plan operators) × (output ≡ valid_answer plan))
    ⊎ ((fault : PlanFault) × IsFaultOf p plan fault × Explains p plan fault output.text
    × (output.status ≡ No))

-- the verdict and, after it, these lines of reasons are this answer
abbrev pub MakeAnswer : Parts → PlanParts → Answer → List Line → Type 0
MakeAnswer p plan verdict lines = WhyVerdict p plan (record {
  text = verdict.text.items ++ reasons_text p plan.steps lines;
  status = verdict.status;
})

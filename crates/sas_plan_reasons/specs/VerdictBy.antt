-- The answer about a plan, by how much is reported.
use Rattle.std.specs.Prelude.{Bool, true, false}
use Rattle.sas_core.specs.declared.parts.Parts.{Parts}
use Rattle.sas_core.specs.PlanParts.{PlanParts}
use Rattle.sas_plan_reasons.specs.declared.detail.Detail.{Detail}
use Rattle.sas_answers.specs.Ending.{Output}
use Rattle.sas_answers.specs.Answers.{VerdictAnswer}
use Rattle.sas_plan_reasons.specs.Traced.{TraceVerdict}
use Rattle.sas_plan_reasons.specs.Verdict.{WhyVerdict}

-- after its trace, or alone; with the reasons for a no, or without
abbrev pub VerdictWith : (trace reasons : Bool) → Parts → PlanParts → Output → Type 0
VerdictWith true reasons = TraceVerdict reasons
VerdictWith false true = WhyVerdict
VerdictWith false false = VerdictAnswer

abbrev pub VerdictBy : Detail → Parts → PlanParts → Output → Type 0
VerdictBy detail = VerdictWith detail.trace detail.reasons

use Rattle.std.proofs.lemmas.Bool.{false≢true}
use Rattle.sas_plan_file.proofs.Imports.{subst}
use Rattle.sas_plan_file.specs.PlanLine.{JudgesPlanLine}
use Rattle.sas_plan_file.proofs.PlanEnds.{rejected_line}
use Rattle.sas_plan_file.proofs.plan_refusal.is_cost_line.Goals as goal

pub returns-in_default-2 : goal.returns-in_default-2
returns-in_default-2 c =
    let line = c.args.line.now in
    (λ t. absurd (false≢true t), λ is_cost. absurd (rejected_line line c.in_default.field-0 (subst (JudgesPlanLine line) c.in_default.is c.plan_line.ensures) is_cost))

use Rattle.sas_plan_file.proofs.PlanJudging.{judged_name, judged_shape, judged_keyword}
use Rattle.sas_plan_file.proofs.plan_line.plan_line.Goals as goal

pub returns-in-None : goal.returns-in-None
returns-in-None c = judged_name c.args.line.now c.in-Some.rest.now c.in-Some.ensures c.in-None.ensures.none

pub returns-in-None-behind : goal.returns-in-None-behind
returns-in-None-behind c = judged_keyword c.args.line.now c.in_default.ensures c.in-None-behind.ensures

pub returns-in-None-cost_on_line : goal.returns-in-None-cost_on_line
returns-in-None-cost_on_line c = judged_shape c.args.line.now c.in-Some-behind.rest.now c.in-Some-behind.ensures c.in-None-cost_on_line.ensures.none

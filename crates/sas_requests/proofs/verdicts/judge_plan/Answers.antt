use Rattle.sas_requests.proofs.PlanVerdicts.{holds_known}
use Rattle.sas_requests.proofs.verdicts.judge_plan.Goals as goal

pub returns-in-Ok-clause-judges : goal.returns-in-Ok-clause-judges
returns-in-Ok-clause-judges g c = holds_known _ _ _ _ c.in-Ok.ensures.judges c.in-Some.ensures.opened (cc)

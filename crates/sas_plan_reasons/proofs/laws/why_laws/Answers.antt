-- Each law is proved as a lemma.
use Rattle.sas_plan_reasons.proofs.WhyPlan.{some_why, one_why}
use Rattle.sas_plan_reasons.proofs.laws.why_laws.Goals as goal

pub returns-clause-some : goal.returns-clause-some
returns-clause-some c = some_why

pub returns-clause-one : goal.returns-clause-one
returns-clause-one c = one_why

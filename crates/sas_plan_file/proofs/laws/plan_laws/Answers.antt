use Rattle.sas_plan_file.proofs.PlanGrammar.{plan_grammar}
use Rattle.sas_plan_file.proofs.PlanFilling.{plan_is_filled}
use Rattle.sas_plan_file.proofs.PlanLaws.{plan_laws_hold}
use Rattle.sas_plan_file.proofs.laws.plan_laws.Goals as goal

pub returns-clause-laws : goal.returns-clause-laws
returns-clause-laws c = plan_laws_hold

pub returns-clause-grammar : goal.returns-clause-grammar
returns-clause-grammar c = plan_grammar

pub returns-clause-filled : goal.returns-clause-filled
returns-clause-filled c = plan_is_filled

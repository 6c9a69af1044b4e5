-- Each law is proved as a lemma.
use Rattle.sas_plan_reasons.proofs.Imports.{arith}
use Rattle.sas_plan_reasons.proofs.CauseLines.{default_if_not_given, each_rule_fails}
use Rattle.sas_plan_reasons.proofs.SomeConflict.{some_conflict, one_conflict}
use Rattle.sas_plan_reasons.proofs.Places.{some_precondition_fails, operators_have_name, first_goal_fact}
use Rattle.sas_plan_reasons.proofs.Repeats.{none_is_lost, rules_stand_once}
use Rattle.sas_plan_reasons.proofs.laws.cause_laws.Goals as goal

pub returns : goal.returns
returns c = search (arith, default_if_not_given, each_rule_fails, some_conflict, one_conflict, none_is_lost, rules_stand_once, some_precondition_fails, operators_have_name, first_goal_fact)

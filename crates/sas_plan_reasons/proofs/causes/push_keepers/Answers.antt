-- One rule more, which has a condition that fails or none.
use Rattle.std.proofs.lemmas.Grind.{common_steps}
use Rattle.sas_plan_reasons.proofs.Imports.{arith, length, get_or, flat_map, find, option_map_or, append-nil, take_all, rule_at, fails, failing_lines}
use Rattle.sas_plan_reasons.proofs.Composing.{flat_more}
use Rattle.sas_plan_reasons.proofs.Within.{conditions_within}
use Rattle.sas_plan_reasons.proofs.causes.push_keepers.Goals as goal
use Rattle.sas_plan_reasons.proofs.causes.push_keepers.Goals.{in-Some+in_ok-push, in_default}

pub first_failing-requires : goal.first_failing-requires
first_failing-requires g c = search (arith, length, conditions_within, get_or)

pub loop-rule-preserved : goal.loop-rule-preserved
loop-rule-preserved g c = grind (arith, common_steps, get_or, find, fails, rule_at, in-Some+in_ok-push, flat_more, failing_lines, option_map_or, in_default, append-nil)

pub returns : goal.returns
returns g c = search (arith, flat_map, failing_lines, take_all)

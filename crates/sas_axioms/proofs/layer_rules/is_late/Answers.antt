-- One more condition isn't on a lower layer.
use Rattle.sas_axioms.proofs.Imports.{length, get_or, arith, cases_eq, get_or_default, layer_of, rule_at, condition_within}
use Rattle.sas_axioms.proofs.layer_rules.is_late.Goals as goal
use Rattle.sas_axioms.proofs.layer_rules.is_late.Goals.{in-Some+else-its-layer, in_default}

pub loop-condition-preserved : goal.loop-condition-preserved
loop-condition-preserved g c = search (arith, rule_at, length, layer_of, get_or, cases_eq, get_or_default, in-Some+else-its-layer, in_default)

pub layer-requires : goal.layer-requires
layer-requires g c = rw (c.rule_conditions-condition-items.ensures, c.task-task.ensures.task)
    (condition_within c.args.layered.now c.args.rule c.loop-condition.condition-index _ c.task-task.ensures.well_ranged
    c.requires.rule.exists (rw (c.rule_conditions-condition-items.ensures, c.task-task.ensures.task) at c.loop-condition-test.true))

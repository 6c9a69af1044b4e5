-- Each iteration appends the conditions of a rule that can fire, or skips a rule that can't. Grouped
-- by variable, they form an index.
use Rattle.sas_axioms.proofs.Imports.{arith, by_key}
use Rattle.sas_axioms.proofs.AllConditions.{conditions_more, conditions_skip, conditions_index}
use Rattle.sas_axioms.proofs.conditions.index_of_all.Goals as goal
use Rattle.sas_axioms.proofs.conditions.index_of_all.Goals.{in-Some+in_ok-push_conditions, in_default}

pub loop-rule-preserved : goal.loop-rule-preserved
loop-rule-preserved g c =
    let p = c.args.layered.now in
    let waiting = c.loop-rule.waiting.items in
    elim c.match-firing_layer.branch [
      | in-Some+in_ok-push_conditions w ↦
          (let pushed = w.in_ok-push_conditions.ensures in
          rw (w.waiting-is, pushed) (conditions_more p c.loop-rule.rule w.in-Some._layer waiting c.task-task.ensures.well_ranged w.in-Some.ensures.some c.loop-rule.invariant))
      | in_default w ↦ rw w.waiting-is (conditions_skip p c.loop-rule.rule waiting w.in_default.ensures.none c.loop-rule.invariant)
    ]

pub returns : goal.returns
returns g c = search (arith, by_key, conditions_index)

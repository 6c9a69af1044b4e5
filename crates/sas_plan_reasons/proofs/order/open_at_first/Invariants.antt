-- The open conditions so far.
use Rattle.sas_plan_reasons.proofs.Imports.{◌≡◌, ◌+◌, ◌≤◌, [], drop, open_with}
use Rattle.sas_plan_reasons.proofs.order.open_at_first.Given as goal

abbrev pub invariant-loop-condition : goal.invariant-loop-condition
invariant-loop-condition g l = record {
  so_far : l.«open» + open_with l.task l.state [] (drop l.condition-index l.conditions) ≡ open_with l.task l.state [] l.conditions;
  small : l.«open» ≤ l.condition-index;
}

-- The sum so far.
use Rattle.sas_plan_reasons.proofs.Imports.{◌≡◌, ◌+◌, ◌*◌, ◌^◌, ◌≤◌, drop, cost_lines_sum}
use Rattle.sas_plan_reasons.proofs.faults.sum_of_cost_lines.Given as goal

abbrev pub invariant-loop-operator : goal.invariant-loop-operator
invariant-loop-operator g l = record {
  so_far : l.sum + cost_lines_sum l.task (drop l.operator-index l.operators) ≡ cost_lines_sum l.task l.operators;
  small : l.sum ≤ l.operator-index * 2 ^ 32;
}

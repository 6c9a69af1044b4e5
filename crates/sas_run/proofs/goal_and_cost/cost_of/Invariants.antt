-- The sum so far.
use Rattle.sas_run.proofs.Imports.{◌≡◌, ◌+◌, ◌*◌, ◌^◌, ◌≤◌, drop, cost_of_all}
use Rattle.sas_run.proofs.goal_and_cost.cost_of.Given as goal

abbrev pub invariant-loop-operator : goal.invariant-loop-operator
invariant-loop-operator g l = record {
  so_far : l.sum + cost_of_all l.task (drop l.operator-index l.operators) ≡ cost_of_all l.task l.operators;
  small : l.sum ≤ l.operator-index * 2 ^ 32;
}

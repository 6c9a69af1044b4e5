-- The open conditions so far.
use Rattle.sas_axioms.proofs.Imports.{◌≡◌, ◌+◌, ◌≤◌, drop, slice_index, open_conditions}
use Rattle.sas_axioms.proofs.counting.open_of.Given as goal

abbrev pub invariant-loop-condition : goal.invariant-loop-condition
invariant-loop-condition l = record {
  so_far : l.«open» + open_conditions (slice_index l.state) (drop l.condition-index l.conditions) ≡ open_conditions (slice_index l.state) l.conditions;
  small : l.«open» ≤ l.condition-index;
}

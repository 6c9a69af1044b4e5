-- The list contains the entries of the conditions so far.
use Rattle.sas_axioms.proofs.Imports.{◌≡◌, ◌++◌, drop, rule_at, entries}
use Rattle.sas_axioms.proofs.conditions.push_conditions.Given as goal

abbrev pub invariant-loop-condition : goal.invariant-loop-condition
invariant-loop-condition g l =
    let conditions = (rule_at l.layered l.rule).conditions in
    l.waiting.items ++ entries l.rule (drop l.condition-index conditions) ≡ l.fn.waiting.items ++ entries l.rule conditions

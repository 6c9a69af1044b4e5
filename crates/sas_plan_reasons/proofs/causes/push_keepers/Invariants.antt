-- The lines of the rules so far.
use Rattle.sas_plan_reasons.proofs.Imports.{◌≡◌, ◌++◌, take, flat_map, failing_lines}
use Rattle.sas_plan_reasons.proofs.causes.push_keepers.Given as goal

abbrev pub invariant-loop-rule : goal.invariant-loop-rule
invariant-loop-rule g l = l.lines ≡ l.initial.lines ++ flat_map (failing_lines l.layered l.state) (take l.rule-index l.rules)

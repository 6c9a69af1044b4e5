-- The lines of the rules so far.
use Rattle.sas_plan_reasons.proofs.Imports.{◌≡◌, ◌++◌, take, map, RuleDerives}
use Rattle.sas_plan_reasons.proofs.causes.push_givers.Given as goal

abbrev pub invariant-loop-rule : goal.invariant-loop-rule
invariant-loop-rule l = l.lines ≡ l.initial.lines ++ map RuleDerives (take l.rule-index l.rules)

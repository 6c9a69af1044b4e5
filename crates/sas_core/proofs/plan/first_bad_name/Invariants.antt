-- Each step so far is a name.
use Rattle.sas_core.proofs.Imports.{take, AllByRecursion, IsName}
use Rattle.sas_core.proofs.plan.first_bad_name.Given as goal

abbrev pub invariant-loop-i : goal.invariant-loop-i
invariant-loop-i l = AllByRecursion IsName (take l.i l.steps)

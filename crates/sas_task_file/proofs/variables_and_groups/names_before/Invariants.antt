-- The bytes so far are the number and the names so far, and the rest is left.
use Rattle.sas_task_file.proofs.Imports.{NamesBefore}
use Rattle.sas_task_file.proofs.variables_and_groups.names_before.Given as goal

abbrev pub invariant-loop-i : goal.invariant-loop-i
invariant-loop-i g l = NamesBefore l.count l._i l.fn.names l.names l.fn.bytes l.rest

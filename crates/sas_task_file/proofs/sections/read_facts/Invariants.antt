-- The bytes so far are the number and the facts so far, and the rest is left.
use Rattle.sas_task_file.proofs.Imports.{FactsBefore}
use Rattle.sas_task_file.proofs.sections.read_facts.Given as goal

abbrev pub invariant-loop-i : goal.invariant-loop-i
invariant-loop-i g l = FactsBefore l.fn.ranges l.count l._i l.fn.facts.items l.facts.items l.fn.bytes l.rest

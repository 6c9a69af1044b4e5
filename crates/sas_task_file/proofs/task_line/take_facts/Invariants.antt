-- The words so far are the facts so far, and the rest is left.
use Rattle.sas_task_file.proofs.Imports.{TakesFacts}
use Rattle.sas_task_file.proofs.task_line.take_facts.Given as goal

abbrev pub invariant-loop-i : goal.invariant-loop-i
invariant-loop-i l = TakesFacts l.fn.parts l._i l.facts l.parts

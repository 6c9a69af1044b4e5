-- The bytes so far are the count and the conditions so far, and the rest is left.
use Rattle.sas_task_file.proofs.AheadReading.{ConditionsBefore}
use Rattle.sas_task_file.proofs.sections.read_any_effect.Given as goal

abbrev pub invariant-loop-i : goal.invariant-loop-i
invariant-loop-i g l = ConditionsBefore l.fn.ranges l.count l._i l.conditions.items l.fn.bytes l.rest

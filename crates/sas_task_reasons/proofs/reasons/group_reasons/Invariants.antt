-- The reasons of the groups so far.
use Rattle.sas_task_reasons.proofs.GroupAnswers.{AreReasonsBelow}
use Rattle.sas_task_reasons.proofs.reasons.group_reasons.Given as goal

abbrev pub invariant-loop-group : goal.invariant-loop-group
invariant-loop-group g l = AreReasonsBelow l.layered l.found.verdicts l.group l.reasons

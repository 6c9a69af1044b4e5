-- The bytes so far are the number and the effects so far, and the rest is left.
use Rattle.sas_task_file.proofs.Imports.{EffectsBefore}
use Rattle.sas_task_file.proofs.sections.read_effects.Given as goal

abbrev pub invariant-loop-i : goal.invariant-loop-i
invariant-loop-i g l = EffectsBefore l.fn.ranges l.count l._i l.fn.effects l.effects l.fn.bytes l.rest

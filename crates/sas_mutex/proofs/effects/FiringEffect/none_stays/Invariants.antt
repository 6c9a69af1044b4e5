-- The facts so far can't remain.
use Rattle.sas_mutex.proofs.Imports.{drop, group_at, IsGoneAt}
use Rattle.sas_mutex.proofs.GoneRuns.{SuchBefore}
use Rattle.sas_mutex.proofs.effects.FiringEffect.none_stays.Given as goal

abbrev pub invariant-loop-length : goal.invariant-loop-length
invariant-loop-length g l = SuchBefore (IsGoneAt l.self l.kept) (group_at l.self.task l.group) l.left (drop l.length-index l.length-items)

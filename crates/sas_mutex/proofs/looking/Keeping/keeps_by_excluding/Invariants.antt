-- The known facts are still recorded.
use Rattle.sas_mutex.proofs.Imports.{IsNotedAt}
use Rattle.sas_mutex.proofs.looking.Keeping.keeps_by_excluding.Given as goal

abbrev pub invariant-loop-excluding : goal.invariant-loop-excluding
invariant-loop-excluding g l = IsNotedAt l.firing l.family.kept l.recorded

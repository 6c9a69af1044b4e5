-- The step is noted for the variables so far.
use Rattle.sas_plan_reasons.proofs.Imports.{take, Contains, Notes}
use Rattle.sas_plan_reasons.proofs.changes.Changes.note.Given as goal

abbrev pub invariant-loop-var : goal.invariant-loop-var
invariant-loop-var l = Notes l.step l.state (Contains (take l.var-index l.listed)) l.initial.self l.self

-- The changes so far are made.
use Rattle.sas_run.proofs.Imports.{IsTrue, NotesOn}
use Rattle.sas_run.proofs.Deleted.{DeletedSoFar}
use Rattle.sas_run.proofs.PlainSteps.{Untouched, MadeSoFar}
use Rattle.sas_run.proofs.plain_steps.make_changes.Given as goal

abbrev pub invariant-loop-change : goal.invariant-loop-change
invariant-loop-change g l = record {
  made : MadeSoFar l.task l.fn.state l.changes l.change-index l.state;
  deleted : IsTrue l.deleted.noted → DeletedSoFar l.task (Untouched l.changes l.change-index) l.change-index l.fn.state l.state l.deleted.facts.items;
  notes : NotesOn l.fn.deleted l.deleted;
}

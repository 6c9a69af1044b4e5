-- Nothing is recorded for the facts so far.
use Rattle.sas_mutex.proofs.Imports.{ℕ, ◌<◌, get_or, Fact, AreFrom}
use Rattle.sas_mutex.proofs.NotesOfFacts.{IsForgotten}
use Rattle.sas_mutex.proofs.notes.forget_facts.Given as goal

abbrev pub invariant-loop-fact : goal.invariant-loop-fact
invariant-loop-fact g l = record {
  came : (k : ℕ) (d : Fact) → k < l.fact-index → IsForgotten l.indexed l.notes (get_or l.facts k d);
  from : AreFrom l.indexed l.facts l.notes;
}

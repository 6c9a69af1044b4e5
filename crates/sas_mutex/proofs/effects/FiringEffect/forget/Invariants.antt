-- The facts so far aren't recorded any more.
use Rattle.sas_mutex.proofs.Imports.{known_at, known_left, Turns, IsNotedFrom}
use Rattle.sas_mutex.proofs.NotesOfFacts.{IsForgotten}
use Rattle.sas_mutex.proofs.effects.FiringEffect.forget.Given as goal

abbrev pub invariant-loop-fact : goal.invariant-loop-fact
invariant-loop-fact g l = record {
  came : Turns (IsForgotten l.self.task l.recorded.known) (known_at l.self.task l.self.operator l.self.effect) l.yielded (known_left l.fact-iterator);
  from : IsNotedFrom l.self.task (known_at l.self.task l.self.operator l.self.effect) l.recorded;
}

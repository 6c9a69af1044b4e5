-- The facts so far are recorded and don't clash.
use Rattle.sas_mutex.proofs.Imports.{FactExists, known_at, known_left, AreBlank, Turns}
use Rattle.sas_mutex.proofs.KnownFacts.{AreSoFar}
use Rattle.sas_mutex.proofs.effects.FiringEffect.note.Given as goal

abbrev pub invariant-loop-fact : goal.invariant-loop-fact
invariant-loop-fact g l = record {
  turns : Turns (FactExists l.self.task.variables) (known_at l.self.task l.self.operator l.self.effect) l.yielded (known_left l.fact-iterator);
  so_far : AreSoFar l.self.task l.kept (known_at l.self.task l.self.operator l.self.effect) l.yielded l.recorded.known;
  others : AreBlank l.self.task l.recorded.others;
}

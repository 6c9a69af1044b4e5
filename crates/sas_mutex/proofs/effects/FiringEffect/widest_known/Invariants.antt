-- The chosen fact is one of the known facts.
use Rattle.sas_mutex.proofs.Imports.{Contains, IfSome, known_at, known_left, Turns}
use Rattle.sas_mutex.proofs.effects.FiringEffect.widest_known.Given as goal

abbrev pub invariant-loop-fact : goal.invariant-loop-fact
invariant-loop-fact g l = record {
  turns : Turns (Contains (known_at l.self.task l.self.operator l.self.effect)) (known_at l.self.task l.self.operator l.self.effect) l.yielded (known_left l.fact-iterator);
  chosen : IfSome l.widest (Contains (known_at l.self.task l.self.operator l.self.effect));
}

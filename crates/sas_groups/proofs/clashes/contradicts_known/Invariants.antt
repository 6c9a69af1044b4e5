-- The fact contradicts none of the facts so far.
use Rattle.sas_groups.proofs.Imports.{Contradict, Alone, known_on, known_left}
use Rattle.sas_groups.proofs.Turns.{Turns}
use Rattle.sas_groups.proofs.clashes.contradicts_known.Given as goal

abbrev pub invariant-loop-g : goal.invariant-loop-g
invariant-loop-g g l = Turns (λ x. Contradict (Alone l.group) l.f x → ⊥) (known_on l.task l.premises) l.yielded (known_left l.g-iterator)

-- The facts so far contradict no known fact.
use Rattle.sas_groups.proofs.Imports.{Contradict, Any, Alone, known_on, known_left}
use Rattle.sas_groups.proofs.Turns.{Turns}
use Rattle.sas_groups.proofs.clashes.clash.Given as goal

abbrev pub invariant-loop-f : goal.invariant-loop-f
invariant-loop-f g l = Turns (λ x. Any (Contradict (Alone l.group) x) (known_on l.task l.premises) → ⊥)
    (known_on l.task l.premises) l.yielded (known_left l.f-iterator)

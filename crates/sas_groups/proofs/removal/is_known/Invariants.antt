-- The fact is none of the known facts so far.
use Rattle.sas_groups.proofs.Imports.{◌≡◌, known_on, known_left}
use Rattle.sas_groups.proofs.Turns.{Turns}
use Rattle.sas_groups.proofs.removal.is_known.Given as goal

abbrev pub invariant-loop-g : goal.invariant-loop-g
invariant-loop-g g l = Turns (λ x. x ≡ l.fact → ⊥) (known_on l.task l.fn.premises) l.yielded (known_left l.g-iterator)

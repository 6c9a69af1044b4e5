-- No effect removes the fact.
use Rattle.sas_groups.proofs.Imports.{arith, operator_at, known_on}
use Rattle.sas_groups.proofs.Effects.{never_removed}
use Rattle.sas_groups.proofs.Iff.{iff_no}
use Rattle.sas_groups.proofs.removal.is_removed.Goals as goal

pub returns : goal.returns
returns g c = iff_no (never_removed (operator_at c.args.task.now c.args.premises.now.operator) (known_on c.args.task.now c.args.premises.now) c.args.fact
    (λ k lt. c.loop-effect.invariant k (omega arith)))

-- In the end each fact is below the next one.
use Rattle.sas_mutex.proofs.Imports.{arith}
use Rattle.sas_mutex.proofs.InOrder.{ascending_once}
use Rattle.sas_mutex.proofs.distinct.is_ascending.Goals as goal

pub returns : goal.returns
returns c t = ascending_once c.args.facts.now (λ k d lt. c.loop-place.invariant k d (let ended = c.loop-place-test.false in omega arith))

use Rattle.sas_flat.proofs.Imports.{◌+◌, arith, get_or_default, map_over_more}
use Rattle.sas_flat.proofs.ends.shift.Goals as goal

pub loop-place-preserved : goal.loop-place-preserved
loop-place-preserved c =
    map_over_more (λ p. p + c.args.by) c.args.places.now c.loop-place.places c.loop-place.place-index _ c.loop-place-test.true c.loop-place.invariant
    (get_or_default c.loop-place.places c.loop-place.place-index 0 _ (omega arith))

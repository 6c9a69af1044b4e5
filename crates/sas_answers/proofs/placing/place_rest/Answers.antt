use Rattle.sas_answers.proofs.Imports.{Some, arith, common_steps, PlacesOrLeaves}
use Rattle.sas_answers.proofs.Placed.{placed_then_none}
use Rattle.sas_answers.proofs.placing.place_rest.Goals as goal

pub returns-in_err-next : goal.returns-in_err-next
returns-in_err-next c =
    let so_far : PlacesOrLeaves _ c.loop-word.piece _ _ (Some c.loop-word.end) =
    record { as_long = c.loop-word.invariant.length; places = c.loop-word.invariant.places } in
    placed_then_none _ _ _ _ _ _ _ _ _ c.requires so_far c.in_err-next.ensures c.from_residual.ensures

pub loop-word-preserved : goal.loop-word-preserved
loop-word-preserved c = grind (arith, common_steps)

pub returns : goal.returns
returns c = grind (arith, common_steps)

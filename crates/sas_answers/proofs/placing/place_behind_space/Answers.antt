use Rattle.sas_answers.proofs.Placed.{placed_then}
use Rattle.sas_answers.proofs.placing.place_behind_space.Goals as goal

pub returns : goal.returns
returns c = placed_then _ _ _ _ _ _ _ _ c.requires c.in_ok-behind_space.ensures c.place.ensures

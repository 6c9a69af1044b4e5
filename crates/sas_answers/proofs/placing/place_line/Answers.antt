use Rattle.sas_answers.proofs.Placed.{places_as, placed_then, placed_then_none}
use Rattle.sas_answers.proofs.WordLines.{line_is}
use Rattle.sas_answers.proofs.placing.place_line.Goals as goal

pub returns-in_err-behind_rest : goal.returns-in_err-behind_rest
returns-in_err-behind_rest c =
    placed_then_none _ _ _ _ _ _ _ _ _ c.requires c.in_ok-behind_first.ensures c.in_err-behind_rest.ensures
    c.from_residual-in_err-behind_rest.ensures

pub returns : goal.returns
returns c =
    let words = placed_then _ _ _ _ _ _ _ _ c.requires c.in_ok-behind_first.ensures c.in_ok-behind_rest.ensures in
    places_as _ _ _ _ _ _ (line_is c.args.line) (placed_then _ _ _ _ _ _ _ _ c.requires words c.place_byte.ensures)

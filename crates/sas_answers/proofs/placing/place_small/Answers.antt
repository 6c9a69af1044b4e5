use Rattle.sas_answers.proofs.Imports.{List, ℕ, ◌∷◌, arith, sym, ap, decimal_pair}
use Rattle.sas_answers.proofs.Placed.{places_as, placed_then}
use Rattle.sas_answers.proofs.placing.place_small.Goals as goal

pub returns : goal.returns
returns c =
    let digits = decimal_pair c.args.number (omega arith) (omega arith) in
    places_as _ _ _ _ _ _ (ap (λ (l : List ℕ). 32 ∷ l) (sym digits)) (placed_then _ _ _ _ _ _ _ _ c.requires.at c.in_ok-behind_hundreds.ensures c.place_pair.ensures)

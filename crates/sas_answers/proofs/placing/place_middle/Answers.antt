-- The ten thousands, two digits behind them, and two more.
use Rattle.sas_answers.proofs.Imports.{List, ℕ, ◌∷◌, ◌++◌, ◌≡◌, ◌/◌, ◌%◌, arith, sym, ap, ◌∙◌, decimal, decimal_pair, pair}
use Rattle.sas_answers.proofs.Placed.{places_as, placed_then, placed_then_none}
use Rattle.sas_answers.proofs.placing.place_middle.Goals as goal

pub returns-in_err-behind_hundreds : goal.returns-in_err-behind_hundreds
returns-in_err-behind_hundreds c =
    placed_then_none _ _ _ _ _ _ _ _ _ c.requires.at c.in_ok-behind_ten_thousands.ensures c.in_err-behind_hundreds.ensures
    c.from_residual-in_err-behind_hundreds.ensures

pub returns : goal.returns
returns c =
    let n = c.args.number in
    let behind = decimal_pair (n / 100) (omega arith) (omega arith) in
    let digits = decimal_pair n (omega arith) (omega arith) in
    let whole : (32 ∷ decimal (n / 100 / 100) ++ pair (n / 100 % 100)) ++ pair (n % 100) ≡ 32 ∷ decimal n =
    ap (λ (l : List ℕ). 32 ∷ l ++ pair (n % 100)) (sym behind) ∙ ap (λ (l : List ℕ). 32 ∷ l) (sym digits) in
    places_as _ _ _ _ _ _ whole
    (placed_then _ _ _ _ _ _ _ _ c.requires.at (placed_then _ _ _ _ _ _ _ _ c.requires.at c.in_ok-behind_ten_thousands.ensures c.in_ok-behind_hundreds.ensures) c.place_pair-2.ensures)

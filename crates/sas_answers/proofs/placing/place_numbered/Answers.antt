-- The word, the numbers, the name and the line's end stand one behind the other.
use Rattle.sas_answers.proofs.Imports.{List, ℕ, [], ◌∷◌, ◌++◌, ap, decimal}
use Rattle.sas_answers.proofs.Placed.{places_as, placed_then, placed_then_none}
use Rattle.sas_answers.proofs.WordLines.{numbered_is}
use Rattle.sas_answers.proofs.placing.place_numbered.Goals as goal

pub returns-in_err-behind_first : goal.returns-in_err-behind_first
returns-in_err-behind_first c =
    placed_then_none _ _ _ _ _ _ _ _ _ c.requires c.in_ok-behind_word.ensures c.in_err-behind_first.ensures
    c.from_residual-in_err-behind_first.ensures

pub returns-in_err-behind_second : goal.returns-in_err-behind_second
returns-in_err-behind_second c =
    let first = placed_then _ _ _ _ _ _ _ _ c.requires c.in_ok-behind_word.ensures c.in_ok-behind_first.ensures in
    placed_then_none _ _ _ _ _ _ _ _ _ c.requires first c.in_err-behind_second.ensures c.from_residual-in_err-behind_second.ensures

pub returns-in_err-behind_third : goal.returns-in_err-behind_third
returns-in_err-behind_third c =
    let first = placed_then _ _ _ _ _ _ _ _ c.requires c.in_ok-behind_word.ensures c.in_ok-behind_first.ensures in
    let second = placed_then _ _ _ _ _ _ _ _ c.requires first c.in_ok-behind_second.ensures in
    placed_then_none _ _ _ _ _ _ _ _ _ c.requires second c.in_err-behind_third.ensures c.from_residual-in_err-behind_third.ensures

pub returns-in_err-behind_name : goal.returns-in_err-behind_name
returns-in_err-behind_name c =
    let first = placed_then _ _ _ _ _ _ _ _ c.requires c.in_ok-behind_word.ensures c.in_ok-behind_first.ensures in
    let second = placed_then _ _ _ _ _ _ _ _ c.requires first c.in_ok-behind_second.ensures in
    let third = placed_then _ _ _ _ _ _ _ _ c.requires second c.in_ok-behind_third.ensures in
    placed_then_none _ _ _ _ _ _ _ _ _ c.requires third c.in_err-behind_name.ensures c.from_residual-in_err-behind_name.ensures

pub returns : goal.returns
returns c =
    let l = c.args.line in
    let whole = ap (λ (b : List ℕ). b ++ 10 ∷ []) (numbered_is l.word.now (decimal l.first) (decimal l.second) (decimal l.third) l.name.now) in
    let first = placed_then _ _ _ _ _ _ _ _ c.requires c.in_ok-behind_word.ensures c.in_ok-behind_first.ensures in
    let second = placed_then _ _ _ _ _ _ _ _ c.requires first c.in_ok-behind_second.ensures in
    let third = placed_then _ _ _ _ _ _ _ _ c.requires second c.in_ok-behind_third.ensures in
    let name = placed_then _ _ _ _ _ _ _ _ c.requires third c.in_ok-behind_name.ensures in
    places_as _ _ _ _ _ _ whole (placed_then _ _ _ _ _ _ _ _ c.requires name c.place_byte.ensures)

use Rattle.sas_answers.proofs.Imports.{sym, arith, ◌∙◌, length-take-le}
use Rattle.sas_answers.proofs.ShownTexts.{space_at_end, no_space_at_end, shown_long, shown_short, placed_as}
use Rattle.sas_answers.proofs.shown.show.Goals as goal

pub slice_bounds-front-end : goal.slice_bounds-front-end
slice_bounds-front-end c = sym (length-take-le c.args.most c.args.text.now (omega (arith, c.if-text-most.true)))

pub show_before-requires : goal.show_before-requires
show_before-requires c = omega (arith, c.requires, length-take-le c.args.most c.args.text.now (omega (arith, c.if-text-most.true)))

pub returns-then-text-most : goal.returns-then-text-most
returns-then-text-most c = placed_as _ _ _ _ _ (shown_long c.args.most c.args.text.now (omega (arith, c.if-text-most.true))) c.show_before.ensures

pub returns-in-Some : goal.returns-in-Some
returns-in-Some c =
    let h = c.in-Some.ensures.cases in
    placed_as _ _ _ _ _
    (sym (space_at_end c.args.text.now c.in-Some.front.now h.0 h.1) ∙ shown_short c.args.most c.args.text.now (omega (arith, c.if-text-most.false)))
    c.show_before-in-Some.ensures

pub returns-in-None : goal.returns-in-None
returns-in-None c =
    placed_as _ _ _ _ _
    (sym (no_space_at_end c.args.text.now c.in-None.ensures.cases) ∙ shown_short c.args.most c.args.text.now (omega (arith, c.if-text-most.false)))
    c.show_before-in-None.ensures

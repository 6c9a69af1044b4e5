use Rattle.sas_answers.proofs.Imports.{arith, sym, ◌∙◌}
use Rattle.sas_answers.proofs.ShownTexts.{usual_name}
use Rattle.sas_answers.proofs.shown.is_shown_whole.Goals as goal

pub returns-in-None : goal.returns-in-None
returns-in-None c is = usual_name c.args.name.now (omega (arith, c.if-name-gt-MOST.false)) c.in-None.ensures.cases (sym c.are_plain.ensures ∙ is)

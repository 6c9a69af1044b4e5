-- The lines of the fault, of what follows, and of another operator.
use Rattle.sas_plan_reasons.proofs.Imports.{List, ◌++◌, ◌∙◌, ap, sym, subst, IsWhy, Line}
use Rattle.sas_plan_reasons.proofs.Behind.{is_why}
use Rattle.sas_plan_reasons.proofs.faults.reasons.Goals as goal

pub returns : goal.returns
returns g c =
    let p = c.args.layered.now in
    let plan = g.P.Stepwise.says c.args.plan.now in
    let (run, r) = c.requires in
    let (later, follow, first) = c.in_ok-push_later.ensures run r in
    let (others, may, second) = c.in_ok-push_other.ensures p run r.other in
    subst (λ (l : List Line). IsWhy p plan c.args.history.now.fault l) (sym c.into_vec.ensures)
    (is_why p plan c.args.history.now run r c.in_ok-lines.lines later others c.push_other.new.lines (c.in_ok-lines.ensures run r) follow may
    (second ∙ ap (λ (front : List Line). front ++ others) first))

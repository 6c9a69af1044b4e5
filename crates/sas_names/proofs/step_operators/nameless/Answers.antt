-- The steps without an operator are counted.
use Rattle.sas_names.proofs.Imports.{◌≡◌, ℕ, not, is_some, rules, ◌∙◌, count_by, existing}
use Rattle.sas_names.proofs.FoundSteps.{nameless_counted}
use Rattle.sas_names.proofs.step_operators.nameless.Goals as goal

pub returns : goal.returns
returns g c = λ steps are.
    let p = g.T.Grounded.says c.args.task.now in
    let counted : c.count.result ≡ count_by (λ (first : ℕ). not (is_some (existing p first))) c.args.firsts.now = search rules in
    counted ∙ nameless_counted p steps c.args.firsts.now are

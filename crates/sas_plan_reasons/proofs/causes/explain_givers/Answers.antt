-- The rules of the derivation, and their lines.
use Rattle.sas_plan_reasons.proofs.Imports.{◌≡◌, ◌++◌, List, ℕ, map, RuleDerives, subst, on_ok_weaker}
use Rattle.sas_plan_reasons.proofs.Adding.{givers_explained}
use Rattle.sas_plan_reasons.proofs.causes.explain_givers.Goals as goal

pub returns : goal.returns
returns g c = on_ok_weaker c.push_givers.result
    (λ add s is. givers_explained c.args.task.now s c.args.explanation.now c.push_givers.new.lines c.explain_derivation.new.self c.explain_derivation.new.rules c.args.var
    (c.in_ok-explain_derivation.ensures s is.origins)
    (subst (λ (rules : List ℕ). c.push_givers.new.lines ≡ c.args.explanation.now.lines ++ map RuleDerives rules) c.as_slice.ensures.value add) is)
    c.push_givers.ensures

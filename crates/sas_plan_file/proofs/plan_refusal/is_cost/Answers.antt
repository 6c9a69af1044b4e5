use Rattle.sas_plan_file.proofs.Imports.{ap, subst, sym, ◌∙◌, ℕ, List, IsTrue, ◌↔◌, without_return, IsCostLine, Kept}
use Rattle.sas_plan_file.proofs.PlanEnds.{kept_cost, cost_kept}
use Rattle.sas_plan_file.proofs.plan_refusal.is_cost.Goals as goal

pub returns : goal.returns
returns c = λ text found.
    let front = ap (λ (k : Kept). k.front) found.kept in
    let bytes = c.bytes.ensures ∙ front in
    let line = c.without_return.ensures in
    let told = subst (λ (l : List ℕ). IsTrue c.is_cost_line.result ↔ IsCostLine l) line c.is_cost_line.ensures in (
      λ t. subst (λ (l : List ℕ). IsCostLine (without_return l)) (kept_cost text c.bytes.result.now bytes (told.0 t)) (told.0 t),
      λ cost. told.1 (subst (λ (l : List ℕ). IsCostLine (without_return l)) (sym (cost_kept text c.bytes.result.now bytes cost)) cost),
    )

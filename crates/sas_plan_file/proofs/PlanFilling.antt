-- Lines that begin a plan can be completed by the cost 0.
use Rattle.sas_plan_file.proofs.Imports.{◌≡◌, List, ℕ, ◌∷◌, [], ◌++◌, subst, arith, refl, ◌⊎◌, inl, inr, PlanParts, WellNamed, lines_of, cut_at, ends_split, LeadsToEnd, Leads, PlanLine, plan_line_bytes, plan_layout, plan_texts, plan_format, PlanLineFits, PlanState, going, closed, plan_node, plan_start, PlanIsFilled, filling_cost_line}
use Rattle.sas_core.specs.declared.plan.CostKind.TheVariants as costs
use Rattle.sas_plan_file.proofs.PlanGrammar.{plan_grammar}
use Rattle.sas_plan_file.proofs.PlanEnds.{lines_of_plan, lines_with_cost}

filled_by : (q : PlanState) (begun : List (List ℕ)) → Leads plan_format PlanLineFits plan_node plan_start begun q → (p : PlanParts) × WellNamed p × ((lines_of plan_texts p ≡ begun) ⊎ (lines_of plan_texts p ≡ begun ++ filling_cost_line ∷ []))
filled_by (closed p) begun h = let (v, good, is) = lines_of_plan begun p h in (v, good, inl is)
filled_by (going steps) begun h = let (v, good, is) = lines_with_cost begun steps filling_cost_line h (0, costs.Unit, omega arith, refl) in (v, good, inr is)

pub plan_is_filled : PlanIsFilled
plan_is_filled begun (v, more, good, e) =
    let c = cut_at plan_line_bytes begun more (plan_layout v) e in
    let t = ends_split plan_format PlanLineFits plan_node plan_start v c.before c.after (subst (λ (is : List PlanLine). LeadsToEnd plan_format PlanLineFits plan_node plan_start is v) c.whole (plan_grammar.complete v good)) in
    filled_by t.0 begun (record { items = c.before; after = t.1; spells = c.front_is })

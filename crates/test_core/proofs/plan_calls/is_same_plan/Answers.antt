-- The equality of each part is decided, and so is that of the whole.
use Rattle.std.proofs.Common.{◌≡◌, ◌&&◌, refl, sym, ◌∙◌, nat_eq}
use Rattle.std.specs.Bool.{Decides}
use Rattle.std.specs.Cmp.{first_so, second_so, unsigned_Decides}
use Rattle.std.specs.Cmp.Derive.{both_true}
use Rattle.std.specs.Cmp.Lexicographic.{pointwise, pointwise_decides}
use Rattle.std.proofs.lemmas.Bool.{false≢true}
use Rattle.sas_core.specs.declared.plan.CostKind.{CostKind}
use Rattle.sas_core.specs.declared.plan.CostKind.TheVariants.{Unit as unit_cost, General}
use Rattle.sas_core.specs.contracts.plan.CostKind.{the_type}
use Rattle.sas_core.specs.PlanParts.{PlanParts}
use denote.Enum.Bare.{sameb}
use Rattle.test_core.proofs.plan_calls.is_same_plan.Goals as goal

kinds : (a b : CostKind) → Decides (sameb the_type a b) (a ≡ b)
kinds unit_cost unit_cost = (λ _. refl, λ _. refl)
kinds unit_cost General = (λ e. absurd (false≢true e), λ e. absurd (cc))
kinds General unit_cost = (λ e. absurd (false≢true e), λ e. absurd (cc))
kinds General General = (λ _. refl, λ _. refl)

plans : (p q : PlanParts) → Decides (pointwise (pointwise nat_eq) p.steps q.steps && (nat_eq p.cost q.cost && sameb the_type p.kind q.kind)) (p ≡ q)
plans p q =
    let steps = pointwise_decides (pointwise_decides unsigned_Decides) in (
      λ e.
          let s = (steps p.steps q.steps).0 (first_so _ _ e) in
          let c = (unsigned_Decides p.cost q.cost).0 (first_so _ _ (second_so _ _ e)) in
          let k = (kinds p.kind q.kind).0 (second_so _ _ (second_so _ _ e)) in
          λ i. record { steps = s i; cost = c i; kind = k i },
      λ e.
          both_true ((steps p.steps q.steps).1 (λ i. (e i).steps))
          (both_true ((unsigned_Decides p.cost q.cost).1 (λ i. (e i).cost)) ((kinds p.kind q.kind).1 (λ i. (e i).kind))),
    )

pub returns : goal.returns
returns c =
    let d = plans c.args.plan.now c.args.other.now in
    (λ t. d.0 (sym c.eq.ensures ∙ t), λ e. c.eq.ensures ∙ d.1 e)

-- Where no step before the unknown name has another operator of its name, the run is known.
use Rattle.sas_plan_reasons.proofs.Imports.{◌≡◌, ℕ, List, None, Some, refl, sym, subst, ◌∙◌, get_or, All, PlanFault, NoOperator, IsEnding, HaveNoNamesakes}
use Rattle.sas_plan_reasons.proofs.Behind.{comes_unambiguously}
use Rattle.sas_plan_reasons.proofs.StepChains.{none_above}
use Rattle.sas_plan_reasons.proofs.writing.explain_invalid.Goals as goal

pub explain_unknown-requires-clause-run : goal.explain_unknown-requires-clause-run
explain_unknown-requires-clause-run g c =
    let named = c.args.named.now in
    let p = named.task.now in
    let plan = named.plan.now in
    let ending = subst (λ (fault : PlanFault). IsEnding p plan c.args.operators.items (Some fault)) c.in-NoOperator.is c.requires.ends in
    let (run, of, ends, are) = ending in
    let none = subst (λ (os : List ℕ). All (λ (operator : ℕ). get_or named.nexts.now operator None ≡ None) os) (c.as_slice.ensures.value ∙ sym are) (c.if-not-have_next.ensures.0 refl) in
    let namesakes = none_above p plan named.firsts.now named.nexts.now c.requires.named.names c.requires.prepared.layered run of none in
    (run, comes_unambiguously p plan c.args.operators.items (NoOperator c.in-NoOperator.step) ending (subst (HaveNoNamesakes p) are namesakes))

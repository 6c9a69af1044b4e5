-- The step, and then each operator of its name.
use Rattle.sas_plan_reasons.proofs.Imports.{◌≡◌, ◌<◌, ℕ, List, [], ◌∷◌, length, bytes_eq, refl, sym, ◌∙◌, ap, arith, operator_at, places_to, places_all, LinesOfEach, AreFailedPreconditionLines, AreOperatorLines, Step}
use Rattle.sas_plan_reasons.proofs.Composing.{more_is_explanation, plain_is_explanation, line_and_more, one_more}
use Rattle.sas_plan_reasons.proofs.Faulty.{place_more, place_not, all_reported}
use Rattle.sas_plan_reasons.proofs.faults.blocked.Goals as goal
use Rattle.sas_plan_reasons.proofs.faults.blocked.Goals.{then-eq+in_ok-explain_inapplicable, else-eq}

pub explain_inapplicable-requires-clause-explanation : goal.explain_inapplicable-requires-clause-explanation
explain_inapplicable-requires-clause-explanation g c =
    let p = c.args.task.now in
    more_is_explanation p c.args.history.now (λ run. LinesOfEach (AreFailedPreconditionLines p run) (places_to (λ o. bytes_eq o.name c.args.name.now) c.loop-operator.operator p.operators))
    _ c.loop-operator.explanation c.loop-operator.invariant
    (plain_is_explanation p c.args.history.now c.in_ok-explanation.explanation c.push.new.self (Step c.args.step ∷ []) (refl, tt) c.in_ok-push.ensures.ok
    (c.requires.0, c.requires.1, c.in_ok-explanation.ensures.explanation))

pub loop-operator-preserved : goal.loop-operator-preserved
loop-operator-preserved g c =
    let p = c.args.task.now in
    let name = c.args.name.now in
    let k = c.loop-operator.operator in
    let lt : k < length p.operators = omega (arith, c.operators-operator-end.ensures, c.loop-operator-test.true) in
    let test : bytes_eq (operator_at p k).name name ≡ c.eq.result = ap (λ (n : List ℕ). bytes_eq n name) (sym c.name.ensures) ∙ sym c.eq.ensures in
    elim c.if-eq.branch [
      | then-eq+in_ok-explain_inapplicable w ↦ rw (w.explanation-is, place_more (λ o. bytes_eq o.name name) k p.operators _ lt (test ∙ w.if-eq.true))
          (one_more p c.args.history.now (λ run. AreFailedPreconditionLines p run) _ _ _ _ k c.loop-operator.invariant w.in_ok-explain_inapplicable.ensures)
      | else-eq w ↦ rw (w.explanation-is, place_not (λ o. bytes_eq o.name name) k p.operators _ lt (test ∙ w.if-eq.false)) c.loop-operator.invariant
    ]

pub returns : goal.returns
returns g c =
    let p = c.args.task.now in
    let name = c.args.name.now in
    let all = places_all (λ o. bytes_eq o.name name) c.loop-operator.operator p.operators (omega (arith, c.operators-operator-end.ensures, c.loop-operator-test.false)) in
    all_reported p c.args.history.now _ c.in_ok-explanation.explanation c.loop-operator.explanation c.in_ok-explanation.ensures.explanation c.in_ok-explanation.ensures.empty
    (line_and_more _ _ _ _ c.push.new.self (Step c.args.step) (λ run. AreOperatorLines p run name) refl c.in_ok-push.ensures.ok (rw all at c.loop-operator.invariant))

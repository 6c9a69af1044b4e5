use Rattle.sas_requests.proofs.Imports.{err_from_is_err_and, ◌≡◌, length, ℕ, List, [], get_or, ap, ◌++◌, ◌∙◌, arith, IsJudged, Judge, labelled}
use Rattle.sas_requests.proofs.SaidPlans.{holds_same, reported_more, unsaid, valid_few}
use Rattle.sas_requests.proofs.SideBySide.{none_labelled}
use Rattle.sas_requests.proofs.Turns.{opens_next, opens_until}
use Rattle.sas_requests.proofs.many.answer_each.Goals as goal

pub add-requires : goal.add-requires
add-requires g c = search (arith, valid_few)

pub returns-in_err-cost-clause-err : goal.returns-in_err-cost-clause-err
returns-in_err-cost-clause-err g c =
    let p = err_from_is_err_and c.from_residual.result c.from_residual.ensures.1 in
    rw (p.1, p.2) (unsaid g.S.PlanInputs.open_gives c.loop-number.judge c.args.judge.now _ (g.S.PlanInputs.bytes c.args.plans.now) c.loop-number.number _ _ _ c.loop-number.invariant.task (c.loop-number.invariant.later c.loop-number.number (omega arith)) c.in_err-cost.ensures.err c.in_err-cost.ensures.fault)

pub returns-in_err-cost-clause-fault : goal.returns-in_err-cost-clause-fault
returns-in_err-cost-clause-fault g c = search (arith, err_from_is_err_and, opens_until)

pub loop-number-init : goal.loop-number-init
loop-number-init g c = search (arith, none_labelled)

pub loop-number-preserved : goal.loop-number-preserved
loop-number-preserved g c =
    let before = c.loop-number.invariant in
    let number = c.loop-number.number in
    let judge = c.args.judge.now in
    let known = g.S.PlanInputs.bytes c.args.plans.now in
    let labels = g.S.PlanInputs.labels c.args.plans.now in
    let said = c.in_ok-cost.ensures.ok in
    record {
      task = c.in_ok-cost.ensures.same ∙ before.task;
      labels = c.in_ok-cost.ensures.labels ∙ before.labels;
      end = before.end;
      opened = opens_next g.S.PlanInputs.open_gives number _ _ _ before.opened c.in_ok-cost.ensures.opened;
      later = λ k less. c.in_ok-cost.ensures.later k (omega arith) ∙ before.later k (omega arith);
      reported =
          reported_more judge.reasons judge.loaded known labels number c.loop-number.text.items c.loop-number.tally before.reported _ _ said.0 _ (omega (arith, before.end))
          (holds_same (λ (q : Judge) (bytes : List ℕ). IsJudged q.reasons q.loaded bytes said.0) c.loop-number.judge judge _ (known number) before.task (before.later number (omega arith)) said.1)
          (said.2 ∙ ap (λ (l : List (List ℕ)). c.loop-number.text.items ++ labelled (get_or l number [], said.0)) before.labels)
          said.3 c.add.ensures;
    }

pub returns-clause-ok : goal.returns-clause-ok
returns-clause-ok g c =
    let all : c.loop-number.number ≡ length (g.S.PlanInputs.labels c.args.plans.now) = omega (arith, c.loop-number-test.false, c.loop-number.auto.number-end, c.loop-number.invariant.end) in
    rw (← all) c.loop-number.invariant.reported

pub returns-clause-opened : goal.returns-clause-opened
returns-clause-opened g c =
    let all : c.loop-number.number ≡ length (g.S.PlanInputs.labels c.args.plans.now) = omega (arith, c.loop-number-test.false, c.loop-number.auto.number-end, c.loop-number.invariant.end) in
    rw (← all) c.loop-number.invariant.opened

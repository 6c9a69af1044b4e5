-- What each fault gives is known of the run.
use Rattle.std.proofs.lemmas.Grind.{common_steps}
use Rattle.sas_plan_reasons.proofs.Imports.{arith, ℕ, List, Some, sym, subst, IfOk-weaker, operator_at, Agree, PlanFault, RunEndsWith, Step, LineThen, AreOperatorLines, AreConflictLines, AreFaultLines, operators_exist, ExplainsOnce}
use Rattle.sas_plan_reasons.proofs.Behind.{behind, conflict_clashes, last_is, operators_are, operators_as_many}
use Rattle.sas_plan_reasons.proofs.Faulty.{costs_reported}
use Rattle.sas_plan_reasons.proofs.faults.lines_of_fault.Goals as goal

pub blocked-requires : goal.blocked-requires
blocked-requires g c = (c.requires.0, behind _ _ _ _ c.requires.1)

pub missed-requires : goal.missed-requires
missed-requires g c = (c.requires.0, behind _ _ _ _ c.requires.1)

pub conflicting-requires-clause-state : goal.conflicting-requires-clause-state
conflicting-requires-clause-state g c = (behind _ _ _ _ c.requires.1).state

pub conflicting-requires-clause-disagree : goal.conflicting-requires-clause-disagree
conflicting-requires-clause-disagree g c = λ agree.
    let p = c.args.layered.now in
    let plan = g.P.Stepwise.says c.args.plan.now in
    let run = c.requires.0 in
    let r = c.requires.1 in
    let e = subst (λ (f : PlanFault). RunEndsWith p plan run (Some f)) c.in-Conflict.is r.ends in
    conflict_clashes p plan run c.in-Conflict.step c.in-Conflict.operator c.task.ensures.layered r.through e.1 e.0
    (subst (λ (s : List ℕ). Agree s (operator_at p c.in-Conflict.operator).effects) r.last agree)

pub unknown-requires : goal.unknown-requires
unknown-requires g c = c.requires.1.nameless

pub costs-requires : goal.costs-requires
costs-requires g c = search (arith, operators_exist)

pub returns-in-NoOperator : goal.returns-in-NoOperator
returns-in-NoOperator g c = rw c.in-NoOperator.is (IfOk-weaker c.unknown.result _ _ (λ lines reported run r. reported) c.unknown.ensures)

pub returns-in-NotApplicable : goal.returns-in-NotApplicable
returns-in-NotApplicable g c =
    let p = c.args.layered.now in
    IfOk-weaker c.blocked.result _ _ (λ lines reported run r.
    subst (λ (f : PlanFault). ExplainsOnce lines (AreFaultLines p (g.P.Stepwise.says c.args.plan.now) run f)) (sym c.in-NotApplicable.is)
    (subst (λ (name : List ℕ). ExplainsOnce lines (LineThen (Step c.in-NotApplicable.step) (AreOperatorLines p run name))) c.step.ensures
    (reported run (behind _ _ _ run r))))
    c.blocked.ensures

pub returns-in-Conflict : goal.returns-in-Conflict
returns-in-Conflict g c = rw c.in-Conflict.is (IfOk-weaker c.conflicting.result _ _
    (λ lines reported run r. subst (λ (s : List ℕ). ExplainsOnce lines (LineThen (Step c.in-Conflict.step) (AreConflictLines c.args.layered.now s c.in-Conflict.operator))) (last_is _ _ _ run r) reported)
    c.conflicting.ensures)

pub returns-in-GoalMissed : goal.returns-in-GoalMissed
returns-in-GoalMissed g c = grind (arith, common_steps, behind)

pub returns-in-CostDiffers : goal.returns-in-CostDiffers
returns-in-CostDiffers g c = search (arith, costs_reported, operators_are, operators_as_many)

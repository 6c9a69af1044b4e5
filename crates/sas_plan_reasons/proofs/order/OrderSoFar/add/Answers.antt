-- The variable has a rule, or it gets this one.
use Rattle.sas_plan_reasons.proofs.Imports.{◌≡◌, ℕ, set, Some, refl, ◌∙◌, ap, rule_at, Parts, Change, change_of, on_ok_weaker}
use Rattle.sas_plan_reasons.proofs.Building.{within, some_there, none_there, passed_over, can_meet, one_added}
use Rattle.sas_plan_reasons.proofs.order.OrderSoFar.add.Goals as goal

-- the variable that was read is that of the rule
var_is : (p task : Parts) (rule : ℕ) (change : Change) → task ≡ p → change ≡ change_of (rule_at task rule) → change.var ≡ (rule_at p rule).var
var_is p task rule change same is = ap (λ (c : Change). c.var) is ∙ ap (λ (t : Parts). (rule_at t rule).var) same

pub returns-then-is_some-clause-so_far : goal.returns-then-is_some-clause-so_far
returns-then-is_some-clause-so_far g c =
    let o = c.args.self.now in
    let p = c.args.layered.now in
    let var = var_is p _ c.args.rule c.rule_change-var.result c.task.ensures.task c.rule_change-var.ensures in
    let lt = within p c.args.state.now o c.args.rule c.requires.next c.task.ensures.well_ranged in
    let w = some_there o.order.givers.items _ c.index.result.now c.is_some.result lt (rw var at c.index.ensures) c.is_some.ensures c.if-is_some.true in
    passed_over p c.args.state.now o c.args.rule c.requires.next w.0 w.1

pub meet_all-requires : goal.meet_all-requires
meet_all-requires g c =
    let o = c.args.self.now in
    let p = c.args.layered.now in
    let var = var_is p _ c.args.rule c.rule_change-var.result c.task.ensures.task c.rule_change-var.ensures in
    let lt = within p c.args.state.now o c.args.rule c.requires.next c.task.ensures.well_ranged in
    let none = none_there o.order.givers.items _ c.index.result.now c.is_some.result lt (rw var at c.index.ensures) c.is_some.ensures c.if-is_some.false in
    rw (c.get-requiring.ensures, c.value.ensures, var) (can_meet p c.args.state.now o c.args.rule c.requires.next none)

pub returns-clause-so_far : goal.returns-clause-so_far
returns-clause-so_far g c =
    let o = c.args.self.now in
    let p = c.args.layered.now in
    let var = var_is p _ c.args.rule c.rule_change-var.result c.task.ensures.task c.rule_change-var.ensures in
    let lt = within p c.args.state.now o c.args.rule c.requires.next c.task.ensures.well_ranged in
    let none = none_there o.order.givers.items _ c.index.result.now c.is_some.result lt (rw var at c.index.ensures) c.is_some.ensures c.if-is_some.false in
    on_ok_weaker c.meet_all.result (λ meets. one_added p c.args.state.now o c.args.rule c.requires.next none _ c.task.ensures.well_ranged c.in_ok-push.ensures.items
    (ap (λ v. set o.order.givers.items v (Some c.args.rule)) var) refl (rw (c.get-requiring.ensures, c.value.ensures, var) at meets)) c.meet_all.ensures

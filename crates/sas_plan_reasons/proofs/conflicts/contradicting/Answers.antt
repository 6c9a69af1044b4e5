-- One effect more: it doesn't fire, or it is the first on its variable, or the first one agrees with it or contradicts it.
use Rattle.sas_run.proofs.Ranges.{change_within}
use Rattle.sas_plan_reasons.proofs.Imports.{◌≡◌, ℕ, ◌+◌, ◌∙◌, List, length, set, Option, Some, sym, ap, subst, arith, slice_index, Change, operator_at, effect_at, AllHold, effect_within, first_on, AreFirstEffects}
use Rattle.sas_plan_reasons.proofs.Firsts.{quiet, again, first_here, contradicted}
use Rattle.sas_plan_reasons.proofs.conflicts.contradicting.Goals as goal

pub returns-then-not-holds_all-clause-none : goal.returns-then-not-holds_all-clause-none
returns-then-not-holds_all-clause-none g c =
    quiet c.args.layered.now c.args.state.now (operator_at c.args.layered.now c.args.operator) c.args.effect c.args.firsts.now c.requires.firsts
    (λ fires. let hold = c.holds_all.ensures.1 (subst (AllHold (slice_index c.args.state.now)) (sym (rw c.task-task.ensures.task at c.effect_conditions.ensures)) fires) in
    let not = c.if-not-holds_all.true in absurd cc)

pub bounds : goal.bounds
bounds g c = (let lt = change_within c.args.layered.now c.task-task.ensures.well_ranged _ c.requires.operator _ c.requires.effect _ (rw c.task-task.ensures.task at c.effect_change-change.ensures) in omega (arith, c.requires.firsts.one_each, ap length c.as_slice.ensures))

pub set-requires : goal.set-requires
set-requires g c = (let lt = change_within c.args.layered.now c.task-task.ensures.well_ranged _ c.requires.operator _ c.requires.effect _ (rw c.task-task.ensures.task at c.effect_change-change.ensures) in omega (arith, c.requires.firsts.one_each))

pub effect_change-requires-clause-effect : goal.effect_change-requires-clause-effect
effect_change-requires-clause-effect g c =
    let var = ap (λ (x : Change). x.var) (rw c.task-task.ensures.task at c.effect_change-change.ensures) in
    let is : first_on c.args.firsts.now (effect_at (operator_at c.args.layered.now c.args.operator) c.args.effect).var ≡ Some c.in-Some.first =
    ap (first_on c.args.firsts.now) (sym var) ∙ (ap (λ (l : List (Option ℕ)). first_on l c.effect_change-change.result.var) (sym c.as_slice.ensures) ∙ c.in-Some.is) in
    let w = c.requires.firsts.only _ c.in-Some.first is in
    rw c.task-task.ensures.task (omega (arith, w.0, c.requires.effect))

pub returns-in-None-clause-none : goal.returns-in-None-clause-none
returns-in-None-clause-none g c =
    let p = c.args.layered.now in
    let s = c.args.state.now in
    let o = operator_at p c.args.operator in
    let n = c.args.effect in
    let firsts = c.args.firsts.now in
    let var = ap (λ (x : Change). x.var) (rw c.task-task.ensures.task at c.effect_change-change.ensures) in
    subst (AreFirstEffects p s o (n + 1)) (sym (c.set.ensures ∙ ap (λ (v : ℕ). set firsts v (Some n)) var))
    (first_here p s o n firsts c.requires.firsts (effect_within p c.task-task.ensures.well_ranged c.args.operator c.requires.operator n c.requires.effect)
    (subst (AllHold (slice_index s)) (rw c.task-task.ensures.task at c.effect_conditions.ensures) (c.holds_all.ensures.0 c.if-not-holds_all.false))
    (ap (first_on firsts) (sym var) ∙ (ap (λ (l : List (Option ℕ)). first_on l c.effect_change-change.result.var) (sym c.as_slice.ensures) ∙ c.in-None.is)))

pub returns-then-effect_change-change-clause-none : goal.returns-then-effect_change-change-clause-none
returns-then-effect_change-change-clause-none g c =
    let firsts = c.args.firsts.now in
    let var = ap (λ (x : Change). x.var) (rw c.task-task.ensures.task at c.effect_change-change.ensures) in
    again _ _ _ _ _ c.requires.firsts _
    (ap (first_on firsts) (sym var) ∙ (ap (λ (l : List (Option ℕ)). first_on l c.effect_change-change.result.var) (sym c.as_slice.ensures) ∙ c.in-Some.is))
    (sym (ap (λ (x : Change). x.new) (rw c.task-task.ensures.task at c.effect_change.ensures)) ∙ (c.if-effect_change-change.true ∙ ap (λ (x : Change). x.new) (rw c.task-task.ensures.task at c.effect_change-change.ensures)))

pub returns-else-effect_change-change-clause-some : goal.returns-else-effect_change-change-clause-some
returns-else-effect_change-change-clause-some g c = search (arith, contradicted, slice_index, first_on)

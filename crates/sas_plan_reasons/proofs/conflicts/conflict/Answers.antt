-- If no effect is contradicted, all agree.
use Rattle.sas_plan_reasons.proofs.Imports.{common_steps, rules, ◌≡◌, ◌∙◌, ℕ, Option, None, get_or, replicate, arith, length-replicate, operator_at}
use Rattle.sas_plan_reasons.proofs.Firsts.{no_firsts, agree, is_conflict}
use Rattle.sas_plan_reasons.proofs.conflicts.conflict.Goals as goal

none_there : (n var : ℕ) → get_or {A = Option ℕ} (replicate n None) var None ≡ None
none_there n var = grind (arith, common_steps)

pub loop-later-init : goal.loop-later-init
loop-later-init g c =
    let n = c.variables.result in
    let made : c.in_ok-vec.field-0.items ≡ replicate {A = Option ℕ} n None = search (rules, replicate) in
    rw (c.from_vec-firsts.ensures ∙ made) (no_firsts _ _ _ _ (length-replicate {A = Option ℕ} n None ∙ c.variables.ensures.count) (none_there n))

pub unreachable-requires : goal.unreachable-requires
unreachable-requires g c =
    agree c.args.task.now c.args.state.now (operator_at c.args.task.now c.args.operator) c.loop-later.later c.loop-later.firsts
    c.loop-later.invariant (omega (arith, c.effects-later-end.ensures)) c.requires.disagree

pub returns-in-Some : goal.returns-in-Some
returns-in-Some g c = is_conflict _ _ _ _ c.loop-later.firsts c.loop-later.invariant _ c.in-Some.ensures.some

-- The given value of one more variable is removed.
use Rattle.sas_run.proofs.Imports.{◌≡◌, ◌<◌, length, ap, arith, Change, operator_at, effect_at}
use Rattle.sas_run.proofs.Ranges.{change_within}
use Rattle.sas_run.proofs.Giving.{fewer_on_effects, one_more_taken}
use Rattle.sas_run.proofs.steps.take_back.Goals as goal

pub loop-effect-preserved : goal.loop-effect-preserved
loop-effect-preserved g c =
    let p = c.args.task.now in
    let o = operator_at p c.args.operator in
    let n = c.loop-effect.effect in
    let given = c.loop-effect.given in
    let inv = c.loop-effect.invariant in
    let v = c.effect_change-change.result.var in
    let on : v ≡ (effect_at o n).var = ap (λ (change : Change). change.var) c.effect_change-change.ensures in
    let exists : v < length p.variables = change_within p c.task.ensures.well_ranged c.args.operator c.requires.operator n (omega arith)
    c.effect_change-change.result c.effect_change-change.ensures in
    let place : v < length given = omega (arith, inv.on_effects.one_each) in
    rw c.set.ensures record {
      on_effects = fewer_on_effects given v place p o inv.on_effects;
      taken = one_more_taken given v place o n on inv.taken;
    }

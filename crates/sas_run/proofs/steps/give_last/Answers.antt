-- One more effect gives its value, if it fires.
use Rattle.sas_run.proofs.Imports.{◌<◌, length, sym, subst, ◌∙◌, arith, slice_index, true≢false, AllHold, operator_at, effect_at, effect_fits, Fires}
use Rattle.sas_run.proofs.Ranges.{effect_within}
use Rattle.sas_run.proofs.GivenLast.{fires_next, rests_next, gives_on_effects}
use Rattle.sas_run.proofs.steps.give_last.Goals as goal

pub loop-effect-preserved : goal.loop-effect-preserved
loop-effect-preserved g c =
    let p = c.args.task.now in
    let s = c.args.state.now in
    let o = operator_at p c.args.operator in
    let n = c.loop-effect.effect in
    let given = c.loop-effect.given in
    let inv = c.loop-effect.invariant in
    let lt : n < length o.effects = omega (arith) in
    let ranged = c.task.ensures.well_ranged in
    let exists = c.requires.operator in
    let fires : Fires s (effect_at o n) = subst (AllHold (slice_index s)) c.effect_conditions.ensures (c.holds_all.ensures.0 c.if-not-holds_all.false) in
    let within = effect_within p ranged c.args.operator exists n lt in
    let in_given : (effect_at o n).var < length given = omega (arith, within, inv.on_effects.one_each) in
    rw (c.set.ensures, c.effect_change-change.ensures) record {
      on_effects = gives_on_effects p o n given lt in_given (effect_fits p ranged c.args.operator exists n lt) inv.on_effects;
      same = fires_next s o n given lt inv.same fires in_given (omega (arith, within, c.requires.state.one_each));
    }

pub loop-effect-preserved-then-not-holds_all : goal.loop-effect-preserved-then-not-holds_all
loop-effect-preserved-then-not-holds_all g c =
    let p = c.args.task.now in
    let s = c.args.state.now in
    let o = operator_at p c.args.operator in
    let inv = c.loop-effect.invariant in
    record {
      on_effects = inv.on_effects;
      same = rests_next s o c.loop-effect.effect c.loop-effect.given (omega (arith)) inv.same
          (λ fires. true≢false (sym (c.holds_all.ensures.1 (subst (AllHold (slice_index s)) (sym c.effect_conditions.ensures) fires)) ∙ c.if-not-holds_all.true));
    }

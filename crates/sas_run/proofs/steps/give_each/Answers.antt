-- One more effect has given its value, if it fires.
use Rattle.std.proofs.lemmas.Grind.{common_steps}
use Rattle.sas_run.proofs.Imports.{◌≡◌, ◌∙◌, true≢false, length, sym, subst, arith, slice_index, Change, operator_at, effect_at, change_of, AllHold, Fires, IsGivenTo, GivesValue, GivesOther, effect_fits}
use Rattle.sas_run.proofs.Ranges.{effect_within, conditions_within, change_within}
use Rattle.sas_run.proofs.Giving.{given_on_effects, conflicts_first, gives_one_more, gives_no_more}
use Rattle.sas_run.proofs.PlainSteps.{no_change, change_made}
use Rattle.sas_run.proofs.steps.give_each.Goals as goal
use Rattle.sas_run.proofs.steps.give_each.Goals.{in-Some, in-None+else-not-holds_all}

pub returns-clause-given_to : goal.returns-clause-given_to
returns-clause-given_to g c =
    let p = c.args.task.now in
    let o = operator_at p c.args.operator in
    given_on_effects p c.args.state.now o c.loop-effect.effect c.loop-effect.given c.loop-effect.invariant (omega arith) (effect_fits p c.task.ensures.well_ranged c.args.operator c.requires.operator)

pub holds_all-requires : goal.holds_all-requires
holds_all-requires g c = search (arith, conditions_within)

pub give-requires : goal.give-requires
give-requires g c =
    let p = c.args.task.now in
    let o = operator_at p c.args.operator in
    let n = c.loop-effect.effect in
    let is : c.match-plain.change ≡ change_of (effect_at o n) = elim c.match-plain.branch [
      | in-Some w ↦ w.change-is ∙ (change_made o w.in-Some.changes.now (rw w.in-Some.is at c.requires.plain) c.args.state.now n no_change (omega arith)).1
      | in-None+else-not-holds_all w ↦ w.change-is ∙ w.effect_change-change.ensures
    ] in
    omega (arith, c.loop-effect.invariant.one_each, change_within p c.task.ensures.well_ranged c.args.operator c.requires.operator n (omega arith) c.match-plain.change is)

pub loop-effect-preserved : goal.loop-effect-preserved
loop-effect-preserved g c =
    let p = c.args.task.now in
    let s = c.args.state.now in
    let o = operator_at p c.args.operator in
    let n = c.loop-effect.effect in
    let given = c.loop-effect.given in
    let made : Fires s (effect_at o n) × (c.match-plain.change ≡ change_of (effect_at o n)) = elim c.match-plain.branch [
      | in-Some w ↦ (let its = change_made o w.in-Some.changes.now (rw w.in-Some.is at c.requires.plain) s n no_change (omega arith) in (its.0, w.change-is ∙ its.1))
      | in-None+else-not-holds_all w ↦
          (subst (AllHold (slice_index s)) w.effect_conditions.ensures (w.holds_all.ensures.0 w.if-not-holds_all.false), w.change-is ∙ w.effect_change-change.ensures)
    ] in
    gives_one_more p s o n given c.loop-effect.invariant (effect_within p c.task.ensures.well_ranged c.args.operator c.requires.operator n (omega arith)) made.0 c.give.new.given
    (subst (λ (change : Change). GivesValue given change.var change.new c.give.new.given) made.1 (c.give.ensures.yes c.if-not-give.false))

pub loop-effect-preserved-then-not-holds_all : goal.loop-effect-preserved-then-not-holds_all
loop-effect-preserved-then-not-holds_all g c =
    let p = c.args.task.now in
    let s = c.args.state.now in
    let o = operator_at p c.args.operator in
    let n = c.loop-effect.effect in
    gives_no_more p s o n c.loop-effect.given c.loop-effect.invariant (λ fires. true≢false (sym (c.holds_all.ensures.1
    (subst (AllHold (slice_index s)) (sym c.effect_conditions.ensures) fires)) ∙ c.if-not-holds_all.true))

pub returns-then-not-give-clause-some : goal.returns-then-not-give-clause-some
returns-then-not-give-clause-some g c =
    let s = c.args.state.now in
    let o = operator_at c.args.task.now c.args.operator in
    let n = c.loop-effect.effect in
    let given = c.loop-effect.given in
    let made : Fires s (effect_at o n) × (c.match-plain.change ≡ change_of (effect_at o n)) = elim c.match-plain.branch [
      | in-Some w ↦ (let its = change_made o w.in-Some.changes.now (rw w.in-Some.is at c.requires.plain) s n no_change (omega arith) in (its.0, w.change-is ∙ its.1))
      | in-None+else-not-holds_all w ↦
          (subst (AllHold (slice_index s)) w.effect_conditions.ensures (w.holds_all.ensures.0 w.if-not-holds_all.false), w.change-is ∙ w.effect_change-change.ensures)
    ] in
    conflicts_first c.args.task.now s o n given c.loop-effect.invariant (omega arith) made.0 c.give.new.given
    (subst (λ (change : Change). GivesOther given change.var change.new c.give.new.given) made.1 (c.give.ensures.no c.if-not-give.true))

pub returns-then-not-give-clause-given_to : goal.returns-then-not-give-clause-given_to
returns-then-not-give-clause-given_to g c =
    let p = c.args.task.now in
    let o = operator_at p c.args.operator in
    subst (IsGivenTo p o) (sym (c.give.ensures.no c.if-not-give.true).now)
    (given_on_effects p c.args.state.now o c.loop-effect.effect c.loop-effect.given c.loop-effect.invariant (omega arith) (effect_fits p c.task.ensures.well_ranged c.args.operator c.requires.operator))

pub returns-clause-none : goal.returns-clause-none
returns-clause-none g c = search (arith, operator_at, length)

pub bounds-changes-effect : goal.bounds-changes-effect
bounds-changes-effect g c = grind (arith, common_steps)

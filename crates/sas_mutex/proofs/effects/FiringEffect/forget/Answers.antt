-- One more fact is removed from the notes.
use Rattle.sas_mutex.proofs.Imports.{arith, length, refl, subst, All-weaker, EffectPlace, known_at, known_left, Turns, turns_begin, turn_has, turn_more, turns_end, common_steps}
use Rattle.sas_mutex.proofs.NotesOfFacts.{IsForgotten, noted_less, forgotten_now, forgotten_still, blank_in_the_end}
use Rattle.sas_mutex.proofs.Existing.{variable_below, groups_below}
use Rattle.sas_mutex.proofs.FromNotes.{IsFiring}
use Rattle.sas_mutex.proofs.TaskFacts.{known_at_exist}
use Rattle.sas_mutex.proofs.effects.FiringEffect.forget.Goals as goal

pub loop-fact-init : goal.loop-fact-init
loop-fact-init g c = grind (arith, common_steps, turns_begin)

pub forget-requires-clause-value : goal.forget-requires-clause-value
forget-requires-clause-value g c =
    let f = c.args.self.now in
    let fits = subst (λ (s : EffectPlace). IsFiring s c.self.inside.index.now c.self.inside.change) c.self.view_is c.self.invariant in
    let within = turn_has c.loop-fact.invariant.came c.in-Some.ensures.steps in
    let exists = known_at_exist f.task fits.0 f.operator fits.2 f.effect fits.3 c.in-Some.fact within in
    let below = variable_below f.task c.in-Some.fact exists in
    let wide = c.loop-fact.invariant.from.known.wide.variables in
    omega arith

pub forget-requires-clause-groups : goal.forget-requires-clause-groups
forget-requires-clause-groups g c =
    let f = c.args.self.now in
    let fits = subst (λ (s : EffectPlace). IsFiring s c.self.inside.index.now c.self.inside.change) c.self.view_is c.self.invariant in
    let within = turn_has c.loop-fact.invariant.came c.in-Some.ensures.steps in
    let exists = known_at_exist f.task fits.0 f.operator fits.2 f.effect fits.3 c.in-Some.fact within in
    groups_below f.task c.self.inside.index.now c.in-Some.fact (length c.loop-fact.recorded.known.groups) fits.1 exists c.loop-fact.invariant.from.known.wide.groups

pub loop-fact-preserved : goal.loop-fact-preserved
loop-fact-preserved g c =
    let f = c.args.self.now in
    let fits = subst (λ (s : EffectPlace). IsFiring s c.self.inside.index.now c.self.inside.change) c.self.view_is c.self.invariant in
    let within = turn_has c.loop-fact.invariant.came c.in-Some.ensures.steps in
    let exists = known_at_exist f.task fits.0 f.operator fits.2 f.effect fits.3 c.in-Some.fact within in
    let all = known_at f.task f.operator f.effect in
    let inv = c.loop-fact.invariant in
    let fact = c.in-Some.fact in
    let old = c.loop-fact.recorded.known in
    let new = c.forget.new.notes in
    let came : Turns (IsForgotten f.task new) all c.loop-fact.yielded (known_left c.loop-fact.fact-iterator) = record {
      parts = inv.came.parts;
      have = All-weaker (IsForgotten f.task old) (IsForgotten f.task new) (forgotten_still fits.1 inv.from.known fact exists c.forget.ensures) c.loop-fact.yielded inv.came.have;
    } in
    record {
      came = turn_more came c.in-Some.ensures.steps (forgotten_now fits.1 inv.from.known fact exists c.forget.ensures);
      from = record { known = noted_less fits.1 inv.from.known fact exists c.forget.ensures; others = inv.from.others };
    }

pub returns : goal.returns
returns g c =
    let f = c.args.self.now in
    let inv = c.loop-fact.invariant in
    record {
      known = blank_in_the_end f.task (known_at f.task f.operator f.effect) c.loop-fact.recorded.known _ inv.from.known (turns_end inv.came c.in-None.ensures.steps.0) refl refl refl;
      others = inv.from.others;
    }

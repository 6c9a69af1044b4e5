-- One more run can't remain, or a fact of the group is known.
use Rattle.sas_mutex.proofs.Imports.{iff_not, ◌≡◌, [], drop, subst, arith, refl, get_or_default, drop_all, operator_at, effect_at, FactExists, known, WellRanged, iff_yes, iff_no, iff_other, common_steps, EffectPlace, IsKept, IsUnknownAt, IsGoneAt}
use Rattle.sas_mutex.proofs.Entering.{group_fact_exists}
use Rattle.sas_mutex.proofs.NotesOfFacts.{one_note_shows}
use Rattle.sas_mutex.proofs.GoneRuns.{such_none, such_all, next_within, next_on_one, next_too, such_more}
use Rattle.sas_mutex.proofs.KnownFacts.{none_if_not_one}
use Rattle.sas_mutex.proofs.FromNotes.{known_one_is_all}
use Rattle.sas_mutex.proofs.effects.FiringEffect.none_stays.Goals as goal

pub is_gone-requires-clause-fact : goal.is_gone-requires-clause-fact
is_gone-requires-clause-fact g c = grind (arith, common_steps, one_note_shows, group_fact_exists)

pub returns-in-Some : goal.returns-in-Some
returns-in-Some g c =
    let p = c.args.self.now.task in
    let o = operator_at p c.args.self.now.operator in
    let e = effect_at o c.args.self.now.effect in
    let place = c.args.group in
    let of = (one_note_shows p (known o e.conditions []) place c.in-Some.fact c.noted.result
    (c.noted.ensures c.args.kept.now c.requires.notes) (c.only.ensures.some c.in-Some.fact c.in-Some.is)).0 in
    iff_other c.is_gone.ensures (known_one_is_all p c.args.kept.now o place e c.in-Some.fact c.requires.group of.among of.has.among) (λ all. all c.in-Some.fact of.has.among)

pub loop-length-init : goal.loop-length-init
loop-length-init g c = grind (arith, common_steps, get_or_default, such_none)

pub split_at-requires : goal.split_at-requires
split_at-requires g c = next_within c.as_slice-length-items.result.now c.loop-length.length-index c.loop-length-test.true c.loop-length.invariant

pub run_is_gone-requires-clause-exist : goal.run_is_gone-requires-clause-exist
run_is_gone-requires-clause-exist g c =
    let p = c.args.self.now.task in
    next_too c.as_slice-length-items.result.now c.loop-length.length-index c.loop-length-test.true c.loop-length.invariant (FactExists p.variables) c.split_at.result.0.now c.split_at.ensures.front
    (λ f among. group_fact_exists p c.args.group f (subst (λ (s : EffectPlace). WellRanged s.task) c.self.view_is c.self.invariant.0) c.requires.group.exists among)

pub run_is_gone-requires-clause-one : goal.run_is_gone-requires-clause-one
run_is_gone-requires-clause-one g c = next_on_one c.as_slice-length-items.result.now c.loop-length.length-index c.loop-length-test.true c.loop-length.invariant c.split_at.result.0.now c.split_at.ensures.front

pub run_is_gone-requires-clause-unknown : goal.run_is_gone-requires-clause-unknown
run_is_gone-requires-clause-unknown g c =
    let p = c.args.self.now.task in
    let o = operator_at p c.args.self.now.operator in
    let e = effect_at o c.args.self.now.effect in
    let place = c.args.group in
    next_too c.as_slice-length-items.result.now c.loop-length.length-index c.loop-length-test.true c.loop-length.invariant (IsUnknownAt c.args.self.now) c.split_at.result.0.now c.split_at.ensures.front
    (λ f among in_known. none_if_not_one p (known o e.conditions []) place (IsKept p c.args.kept.now) (place, c.requires.group, refl)
    c.requires.notes.noted.are.apart c.noted.result (c.noted.ensures c.args.kept.now c.requires.notes) (c.only.ensures.none c.in_default.is)
    f (record { among = in_known; has = record { exists = c.requires.group.exists; among = among } }))

pub returns-then-not-run_is_gone : goal.returns-then-not-run_is_gone
returns-then-not-run_is_gone g c = iff_no (λ gone. iff_not c.run_is_gone.ensures c.if-not-run_is_gone.true
    (next_too c.as_slice-length-items.result.now c.loop-length.length-index c.loop-length-test.true c.loop-length.invariant (IsGoneAt c.args.self.now c.args.kept.now) c.split_at.result.0.now c.split_at.ensures.front gone))

pub loop-length-preserved : goal.loop-length-preserved
loop-length-preserved g c = such_more c.as_slice-length-items.result.now c.loop-length.length-index c.loop-length-test.true c.loop-length.invariant c.split_at.result.0.now c.split_at.result.1.now
    c.split_at.ensures.front c.split_at.ensures.back (c.run_is_gone.ensures.0 c.if-not-run_is_gone.false)

pub returns : goal.returns
returns g c =
    let items = c.as_slice-length-items.result.now in
    let end : drop c.loop-length.length-index items ≡ [] = drop_all c.loop-length.length-index items c.loop-length-test.false in
    iff_yes (such_all _ _ c.loop-length.left.now (rw end at c.loop-length.invariant))

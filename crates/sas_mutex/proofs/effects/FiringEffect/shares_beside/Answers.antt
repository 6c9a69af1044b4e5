-- A known fact other than the one set apart is recorded for each group that contains it; or one more
-- known fact shares no group with the fact, or is the one set apart.
use Rattle.sas_mutex.proofs.Imports.{arith, length, subst, iff_other, EffectPlace, iff_not, ◌≢◌, Some, both_ways, All-contains, Fact, known, turn_has, turn_more, turns_end, iff_yes, iff_no, ShareOne, known_at}
use Rattle.sas_mutex.proofs.Existing.{groups_below}
use Rattle.sas_mutex.proofs.TaskFacts.{known_at_exist}
use Rattle.sas_mutex.proofs.KnownFacts.{share_one, share_kept}
use Rattle.sas_mutex.proofs.FromNotes.{IsFiring, noted_beside, beside_noted}
use Rattle.sas_mutex.proofs.effects.FiringEffect.shares_beside.Goals as goal
use Rattle.sas_mutex.proofs.effects.FiringEffect.shares_beside.Goals.{else-not-is_apart-via-then-not-is_apart+else-some_has, else-not-is_apart-via-else-not-is_apart}

pub has_noted-requires : goal.has_noted-requires
has_noted-requires g c = search (arith, length, groups_below, known)

pub returns-then-groups-recorded : goal.returns-then-groups-recorded
returns-then-groups-recorded g c =
    let f = c.args.self.now in
    let index = c.self.inside.index.now in
    let fits = subst (λ (s : EffectPlace). IsFiring s index c.self.inside.change) c.self.view_is c.self.invariant in
    let has = rw (c.groups_of-groups.ensures, c.as_slice-noted.ensures) at c.has_noted.ensures in
    iff_other has (noted_beside f index fits c.args.kept.now c.args.recorded.now c.requires.notes c.args.fact c.requires.fact)
    (λ (known, among, beside, share). beside_noted f index fits c.args.kept.now c.args.recorded.now c.requires.notes c.args.fact c.requires.fact known among beside share)

pub returns-then-some_has : goal.returns-then-some_has
returns-then-some_has g c =
    let f = c.args.self.now in
    let known = c.in-Some.known in
    let fits = subst (λ (s : EffectPlace). IsFiring s c.self.inside.index.now c.self.inside.change) c.self.view_is c.self.invariant in
    let within = turn_has c.loop-known.invariant c.in-Some.ensures.steps in
    iff_yes (
      known,
      within,
      λ is_apart. both_ways c.is_apart.result c.if-not-is_apart.true (c.is_apart.ensures.1 is_apart),
      share_one f.task c.self.inside.index.now c.args.kept.now known c.args.fact fits.1 (known_at_exist f.task fits.0 f.operator fits.2 f.effect fits.3 known within) c.requires.fact
          (c.some_has.ensures.0 c.if-some_has.true),
    )

pub loop-known-preserved : goal.loop-known-preserved
loop-known-preserved g c =
    let f = c.args.self.now in
    let known = c.in-Some.known in
    let fits = subst (λ (s : EffectPlace). IsFiring s c.self.inside.index.now c.self.inside.change) c.self.view_is c.self.invariant in
    let within = turn_has c.loop-known.invariant c.in-Some.ensures.steps in
    turn_more c.loop-known.invariant c.in-Some.ensures.steps (λ beside share. elim c.else-not-is_apart.branch [
      | else-not-is_apart-via-then-not-is_apart+else-some_has w ↦ iff_not w.some_has.ensures w.if-some_has.false
          (share_kept f.task c.self.inside.index.now c.args.kept.now known c.args.fact fits.1 (known_at_exist f.task fits.0 f.operator fits.2 f.effect fits.3 known within) c.requires.fact share)
      | else-not-is_apart-via-else-not-is_apart w ↦ beside (c.is_apart.ensures.0 w.if-not-is_apart.false)
    ])

pub returns : goal.returns
returns g c =
    let f = c.args.self.now in
    iff_no (λ (one, among, beside, share). All-contains (λ (x : Fact). c.args.recorded.now.known.apart ≢ Some x → ShareOne f.task c.args.kept.now x c.args.fact → ⊥)
    (known_at f.task f.operator f.effect) one (turns_end c.loop-known.invariant c.in-None.ensures.steps.0) among beside share)

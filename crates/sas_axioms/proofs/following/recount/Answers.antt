-- One more entry is counted.
use Rattle.sas_axioms.proofs.Imports.{◌≡◌, ◌<◌, length, get_or, sym, ap, subst, arith, All, IsOfRule, waiting_at}
use Rattle.sas_axioms.proofs.AllConditions.{can_recount}
use Rattle.sas_axioms.proofs.CountingEntries.{CanRecount, no_entry, can_count, entry_counted, entry_passed}
use Rattle.sas_axioms.proofs.Recounting.{moved_when_recounted}
use Rattle.sas_axioms.proofs.following.recount.Goals as goal
use Rattle.sas_axioms.proofs.following.recount.Goals.{in-Some+in_ok-count_to, in_default}

pub count_after-requires : goal.count_after-requires
count_after-requires g c =
    let counts = c.requires.counts in
    let can : CanRecount c.args.moved c.get-waiting.result.now c.args.work.now.counters = rw c.get-waiting.ensures
    (can_recount c.args.indexed.now c.indexed.inside.waiting.now c.args.var (rw c.indexed.view_is at c.indexed.invariant).full (λ v. get_or counts.0 v 0) c.args.work.now.counters counts.1.one_each counts.1.exact
    (rw c.indexed.view_is at c.indexed.invariant).ranged c.args.moved counts.2 c.requires.differ) in
    can_count c.args.moved c.get-waiting.result.now c.loop-condition.condition-index c.args.work.now.counters c.loop-condition.work.counters c.loop-condition-test.true
    c.loop-condition.invariant.counters can

pub count_to-requires-clause-exists : goal.count_to-requires-clause-exists
count_to-requires-clause-exists g c =
    rw c.indexed.view_is (subst (All (IsOfRule c.args.indexed.now)) (sym c.get-waiting.ensures) ((rw c.indexed.view_is at c.indexed.invariant).full.only c.args.var) c.loop-condition.condition-index no_entry c.loop-condition-test.true).1.exists

pub loop-condition-preserved : goal.loop-condition-preserved
loop-condition-preserved g c =
    let p = c.args.indexed.now in
    let moved = c.args.moved in
    let ws = c.get-waiting.result.now in
    let i = c.loop-condition.condition-index in
    let w0 = c.args.work.now in
    let work = c.loop-condition.work in
    let lt = c.loop-condition-test.true in
    let inv = c.loop-condition.invariant in
    let only : All (IsOfRule p) ws = rw c.get-waiting.ensures ((rw c.indexed.view_is at c.indexed.invariant).full.only c.args.var) in
    let exists : (get_or ws i no_entry).rule < length w0.counters = omega (arith, (only i no_entry lt).1.exists, c.requires.counts.1.one_each) in
    elim c.match-count_after.branch [
      | in-Some+in_ok-count_to w ↦ rw w.work-is
          (entry_counted p moved ws i w0 work lt inv w.in-Some.count w.count_to.new.work exists w.count_to.ensures.same (rw c.indexed.view_is at w.in_ok-count_to.ensures.counts) w.in-Some.ensures.some)
      | in_default w ↦ rw w.work-is (entry_passed p moved ws i w0 work lt inv w.in_default.ensures.none)
    ]

pub returns-clause-moves : goal.returns-clause-moves
returns-clause-moves g c s counts is =
    let all : c.loop-condition.condition-index ≡ length (waiting_at c.indexed.inside.waiting.now c.args.var) = let done = c.loop-condition-test.false in omega (arith, ap length c.get-waiting.ensures) in
    moved_when_recounted c.args.indexed.now c.indexed.inside.waiting.now c.args.var c.args.moved (rw c.indexed.view_is at c.indexed.invariant).full c.requires.exists s c.args.work.now c.loop-condition.work c.loop-condition.condition-index counts is
    all (rw c.get-waiting.ensures at c.loop-condition.invariant)

-- One more entry is counted.
use Rattle.sas_axioms.proofs.Imports.{◌≡◌, ◌<◌, ◌≤◌, [], ◌∷◌, ◌++◌, length, get_or, set, vec_capacity, ap, ◌∙◌, arith, rule_at, All, ValueChange, IsOfRule, IsRuleOn}
use Rattle.sas_axioms.proofs.Counters.{top_within, goes_on_still, popped_running, can_release, ready_so_far, released_on, released_room, released_fired, at_work_again}
use Rattle.sas_axioms.proofs.CountingEntries.{CanRecount, no_entry, counters_before, counters_passed, counters_set, its_count, can_count}
use Rattle.sas_axioms.proofs.firing.release.Goals as goal
use Rattle.sas_axioms.proofs.firing.release.Goals.{in-Some+then-has_to_fire, in-Some+else-has_to_fire, in_default}

pub loop-waiting-init : goal.loop-waiting-init
loop-waiting-init g c = search (arith, counters_before, goes_on_still, popped_running)

pub count_after-requires : goal.count_after-requires
count_after-requires g c =
    let moved : ValueChange = record { former = c.initial_value.result; value = c.value.result } in
    let ws = c.get-waiting-items.result.now in
    let w0 = c.args.work.now in
    let can : CanRecount moved ws w0.counters = rw (c.get-waiting-items.ensures, (rw c.indexed.view_is at c.initial_value.ensures), c.value.ensures)
    (can_release c.args.indexed.now c.indexed.inside.waiting.now c.args.var c.args.state.now w0 (rw c.indexed.view_is at c.indexed.invariant).layered (rw c.indexed.view_is at c.indexed.invariant).full c.requires (rw c.indexed.view_is at c.indexed.invariant).ranged) in
    can_count moved ws c.loop-waiting.waiting-index w0.counters c.loop-waiting.work.counters c.loop-waiting-test.true c.loop-waiting.invariant.counters can

pub set-requires : goal.set-requires
set-requires g c =
    let of_rule : All (IsOfRule c.args.indexed.now) c.get-waiting-items.result.now = rw c.get-waiting-items.ensures ((rw c.indexed.view_is at c.indexed.invariant).full.only c.args.var) in
    omega (arith, (of_rule c.loop-waiting.waiting-index no_entry c.loop-waiting-test.true).1.exists, c.loop-waiting.invariant.firing.room.one_each)

pub has_to_fire-requires-clause-rule : goal.has_to_fire-requires-clause-rule
has_to_fire-requires-clause-rule g c =
    let of_rule : All (IsOfRule c.args.indexed.now) c.get-waiting-items.result.now = rw c.get-waiting-items.ensures ((rw c.indexed.view_is at c.indexed.invariant).full.only c.args.var) in
    rw c.indexed.view_is (of_rule c.loop-waiting.waiting-index no_entry c.loop-waiting-test.true)

pub unwrap-requires : goal.unwrap-requires
unwrap-requires g c =
    let p = c.args.indexed.now in
    let s0 = c.args.state.now in
    let w0 = c.args.work.now in
    let moved : ValueChange = record { former = c.initial_value.result; value = c.value.result } in
    let ws = c.get-waiting-items.result.now in
    let i = c.loop-waiting.waiting-index in
    let s = c.loop-waiting.state in
    let work = c.loop-waiting.work in
    let lt = c.loop-waiting-test.true in
    let inv = c.loop-waiting.invariant in
    let rule = (get_or ws i no_entry).rule in
    let valid = rw c.indexed.view_is at c.indexed.invariant in
    let of_rule : All (IsOfRule p) ws = rw c.get-waiting-items.ensures (valid.full.only c.args.var) in
    let exists : rule < length w0.counters = omega (arith, (of_rule i no_entry lt).1.exists, c.requires.firing.room.one_each) in
    let next = counters_set moved ws i w0.counters work.counters lt inv.counters c.in-Some.count c.set.new.self exists c.set.ensures c.in-Some.ensures.some in
    let on : IsRuleOn p work.layer rule = rw c.indexed.view_is at c.has_to_fire.ensures.on c.if-has_to_fire.true in
    let hold = ready_so_far p c.indexed.inside.waiting.now c.args.var s0 w0 valid.layered valid.full c.requires i s work c.set.new.self rule (rw (c.get-waiting-items.ensures, (rw c.indexed.view_is at c.initial_value.ensures), c.value.ensures) at inv) (rw (c.get-waiting-items.ensures, (rw c.indexed.view_is at c.initial_value.ensures), c.value.ensures) at next)
    (rw inv.goes_on.layer at on) (its_count moved ws i w0.counters work.counters lt inv.counters c.in-Some.count c.set.new.self exists c.set.ensures ∙ c.has_to_fire.ensures.none c.if-has_to_fire.true) in
    let room = released_room p moved ws i s0 w0 s work c.set.new.self rule c.in-Some.count inv next (omega (arith, exists, inv.counters.one_each)) c.set.ensures valid.ranged valid.layered on hold
    (rw c.indexed.view_is at c.has_to_fire.ensures.other c.if-has_to_fire.true) in
    c.push.ensures.succeeds (rw c.fire-fired.ensures.work (omega (arith, room, work.stack.ok.0)))

pub loop-waiting-preserved : goal.loop-waiting-preserved
loop-waiting-preserved g c =
    let p = c.args.indexed.now in
    let s0 = c.args.state.now in
    let w0 = c.args.work.now in
    let moved : ValueChange = record { former = c.initial_value.result; value = c.value.result } in
    let ws = c.get-waiting-items.result.now in
    let i = c.loop-waiting.waiting-index in
    let s = c.loop-waiting.state in
    let work = c.loop-waiting.work in
    let lt = c.loop-waiting-test.true in
    let inv = c.loop-waiting.invariant in
    let rule = (get_or ws i no_entry).rule in
    let valid = rw c.indexed.view_is at c.indexed.invariant in
    let of_rule : All (IsOfRule p) ws = rw c.get-waiting-items.ensures (valid.full.only c.args.var) in
    let exists : rule < length w0.counters = omega (arith, (of_rule i no_entry lt).1.exists, c.requires.firing.room.one_each) in
    let within : rule < length work.counters = omega (arith, exists, inv.counters.one_each) in
    elim c.match-count_after.branch [
      | in-Some+then-has_to_fire w ↦
          (let next = counters_set moved ws i w0.counters work.counters lt inv.counters w.in-Some.count w.set.new.self exists w.set.ensures w.in-Some.ensures.some in
          let none = w.has_to_fire.ensures.none w.if-has_to_fire.true in
          let on : IsRuleOn p work.layer rule = rw c.indexed.view_is at w.has_to_fire.ensures.on w.if-has_to_fire.true in
          let hold = ready_so_far p c.indexed.inside.waiting.now c.args.var s0 w0 valid.layered valid.full c.requires i s work w.set.new.self rule
          (rw (c.get-waiting-items.ensures, (rw c.indexed.view_is at c.initial_value.ensures), c.value.ensures) at inv) (rw (c.get-waiting-items.ensures, (rw c.indexed.view_is at c.initial_value.ensures), c.value.ensures) at next)
          (rw inv.goes_on.layer at on) (its_count moved ws i w0.counters work.counters lt inv.counters w.in-Some.count w.set.new.self exists w.set.ensures ∙ none) in
          let changes = rw c.indexed.view_is at w.has_to_fire.ensures.other w.if-has_to_fire.true in
          let var-is : w.fire-fired.result ≡ (rule_at p rule).var = rw c.indexed.view_is at w.fire-fired.ensures.var in
          let state-is : w.fire-fired.new.state ≡ set s w.fire-fired.result (rule_at p rule).new = rw c.indexed.view_is at w.fire-fired.ensures.state in
          let pushed : w.push.new.self.items ≡ work.stack.items ++ (rule_at p rule).var ∷ [] = rw (w.unwrap.ensures, w.fire-fired.ensures.work, var-is) at w.push.ensures.items in
          let capacity : vec_capacity work.stack ≤ vec_capacity w.push.new.self = (let cap = rw w.fire-fired.ensures.work at w.push.ensures.capacity in omega arith) in
          rw (w.work-is, w.state-is, w.fire-fired.ensures.work, state-is, var-is)
          (released_fired p moved ws i s0 w0 s work w.set.new.self rule w.in-Some.count inv next within w.set.ensures valid.ranged valid.layered on hold changes w.push.new.self pushed capacity))
      | in-Some+else-has_to_fire w ↦ rw (w.work-is, w.state-is)
          (released_on p moved ws i s0 w0 s work w.set.new.self rule w.in-Some.count inv
          (counters_set moved ws i w0.counters work.counters lt inv.counters w.in-Some.count w.set.new.self exists w.set.ensures w.in-Some.ensures.some)
          within w.set.ensures (rw c.indexed.view_is at w.has_to_fire.ensures.no w.if-has_to_fire.false))
      | in_default w ↦ rw (w.work-is, w.state-is) record {
        counters = counters_passed moved ws i w0.counters work.counters lt inv.counters w.in_default.ensures.none;
        goes_on = inv.goes_on;
        firing = inv.firing;
        seen = inv.seen;
        left = inv.left;
      }
    ]

pub returns-clause-at_work : goal.returns-clause-at_work
returns-clause-at_work g c =
    let past = c.loop-waiting-test.false in
    let valid = rw c.indexed.view_is at c.indexed.invariant in
    at_work_again c.args.indexed.now c.indexed.inside.waiting.now c.args.var c.args.state.now c.args.work.now valid.layered valid.full c.requires
    c.loop-waiting.waiting-index c.loop-waiting.state c.loop-waiting.work (rw (c.get-waiting-items.ensures, (rw c.indexed.view_is at c.initial_value.ensures), c.value.ensures) at c.loop-waiting.invariant)
    (omega (arith, ap length c.get-waiting-items.ensures))

pub initial_value-requires : goal.initial_value-requires
initial_value-requires g c = rw c.indexed.view_is (top_within c.args.indexed.now c.args.work.now.layer c.args.state.now c.args.work.now.stack.items c.args.var c.requires.firing.running)

pub value-requires : goal.value-requires
value-requires g c = rw c.requires.firing.running.state.one_each (top_within c.args.indexed.now c.args.work.now.layer c.args.state.now c.args.work.now.stack.items c.args.var c.requires.firing.running)

pub get-waiting-items-requires : goal.get-waiting-items-requires
get-waiting-items-requires g c = rw (rw c.indexed.view_is at c.indexed.invariant).full.one_each (top_within c.args.indexed.now c.args.work.now.layer c.args.state.now c.args.work.now.stack.items c.args.var c.requires.firing.running)

pub fire-fired-requires : goal.fire-fired-requires
fire-fired-requires g c = rw c.indexed.view_is record { rule = (rw c.indexed.view_is at c.has_to_fire.ensures.on c.if-has_to_fire.true).exists; state = c.loop-waiting.invariant.firing.running.state.one_each; sources = c.loop-waiting.invariant.firing.room.sources }

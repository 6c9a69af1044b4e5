-- One more entry is counted.
use Rattle.sas_axioms.proofs.Imports.{get_or, sym, arith, All, ValueChange, IsOfRule}
use Rattle.sas_axioms.proofs.AllConditions.{can_recount, recounted}
use Rattle.sas_axioms.proofs.CountingEntries.{CanRecount, no_entry, counters_after, can_count, counters_passed, counters_set}
use Rattle.sas_axioms.proofs.counting.ConditionCounts.recount.Goals as goal
use Rattle.sas_axioms.proofs.counting.ConditionCounts.recount.Goals.{in-Some, in_default}

pub count_after-requires : goal.count_after-requires
count_after-requires c =
    let was = c.requires.counts.1 in
    let self = c.args.self.now in
    let moved : ValueChange = record { former = c.value.result; value = c.args.fact.value } in
    let ws = c.get-condition-items.result.now in
    let can : CanRecount moved ws self.counters = rw c.get-condition-items.ensures
    (can_recount c.requires.counts.0 self.index c.args.fact.var was.index (λ v. get_or self.values v 0) self.counters was.counts.one_each was.counts.exact was.ranged moved (sym c.value.ensures) c.if-moved.false) in
    can_count moved ws c.loop-condition.condition-index self.counters c.loop-condition.counters c.loop-condition-test.true c.loop-condition.invariant can

pub set-requires-in-Some : goal.set-requires-in-Some
set-requires-in-Some c =
    let was = c.requires.counts.1 in
    let of_rule : All (IsOfRule c.requires.counts.0) c.get-condition-items.result.now = rw c.get-condition-items.ensures (was.index.only c.args.fact.var) in
    omega (arith, (of_rule c.loop-condition.condition-index no_entry c.loop-condition-test.true).1.exists, was.counts.one_each, c.loop-condition.invariant.one_each)

pub loop-condition-preserved : goal.loop-condition-preserved
loop-condition-preserved c =
    let was = c.requires.counts.1 in
    let lt = c.loop-condition-test.true in
    let of_rule : All (IsOfRule c.requires.counts.0) c.get-condition-items.result.now =
    rw c.get-condition-items.ensures (was.index.only c.args.fact.var) in
    let exists = (of_rule c.loop-condition.condition-index no_entry lt).1.exists in
    elim c.match-count_after.branch [
      | in-Some w ↦ rw w.counters-is (counters_set _ _ _ _ _ lt c.loop-condition.invariant w.in-Some.count _
          (rw was.counts.one_each exists) w.set-in-Some.ensures w.in-Some.ensures.some)
      | in_default w ↦ rw w.counters-is (counters_passed _ _ _ _ _ lt c.loop-condition.invariant w.in_default.ensures.none)
    ]

pub returns-clause-counts : goal.returns-clause-counts
returns-clause-counts c p was =
    let self = c.args.self.now in
    let var = c.args.fact.var in
    let moved : ValueChange = record { former = c.value.result; value = c.args.fact.value } in
    let inv = c.loop-condition.invariant in
    record {
      ranged = was.ranged;
      layered = was.layered;
      index = was.index;
      counts = rw c.set.ensures
          (recounted p self.index var was.index (omega (arith, c.requires.var, was.counts.known)) self.values self.counters was.counts c.args.fact.value c.loop-condition.counters inv.one_each
          (rw (c.get-condition-items.ensures, c.value.ensures) at (counters_after moved c.get-condition-items.result.now c.loop-condition.condition-index self.counters c.loop-condition.counters (omega arith) inv)));
    }

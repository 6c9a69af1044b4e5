use Rattle.std.proofs.lemmas.Grind.{common_steps}
use Rattle.sas_task_file.proofs.Imports.{◌≡◌, ◌&&◌, IsTrue, ap₂, arith, fact_in_ranges, change_in_ranges}
use Rattle.sas_task_file.proofs.AheadReading.{one_more_condition, effect_is_ahead}
use Rattle.sas_task_file.proofs.sections.read_any_effect.Goals as goal

pub loop-i-preserved : goal.loop-i-preserved
loop-i-preserved g c =
    let l = c.loop-i in
    let f = c.in-Some-read_fact_to.fact in
    let exists : IsTrue (fact_in_ranges c.args.ranges.now f) = let looked = c.if-not-value_in.ensures in let there = c.if-not-value_in.false in cc in
    rw c.in_ok-push.ensures.items (one_more_condition c.args.ranges.now c.in-Some.count c.args.bytes.now l._i l.conditions.items f l.rest.now _ l.invariant c.in-Some-read_fact_to.ensures exists)

pub returns-in-Some-read_change : goal.returns-in-Some-read_change
returns-in-Some-read_change g c =
    let l = c.loop-i in
    let change = c.in-Some-read_change.change in
    let all : l._i ≡ c.in-Some.count = omega (arith, c.loop-i-test.false, l.auto._i-end) in
    let whole = rw all at l.invariant in
    let exists : IsTrue (change_in_ranges c.args.ranges.now change.var change.old change.new) = let looked = c.change_in.ensures in let there = c.if-change_in.true in cc in
    (ap₂ (λ x y. x && y) whole.exist exists, effect_is_ahead c.args.ranges.now c.in-Some.count c.args.bytes.now l.conditions.items l.rest.now _ change c.in-Some.ensures.0 whole c.in-Some-read_change.ensures)

pub loop-i-init : goal.loop-i-init
loop-i-init g c = grind (arith, common_steps)

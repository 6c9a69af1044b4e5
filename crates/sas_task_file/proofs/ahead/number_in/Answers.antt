use Rattle.std.proofs.lemmas.Grind.{common_steps}
use Rattle.sas_task_file.proofs.Imports.{◌≤◌, ◌^◌, arith}
use Rattle.sas_task_file.proofs.AheadReading.{first_digit, digit_goes_on, number_ends, tens_grow, tens_more}
use Rattle.sas_task_file.proofs.ahead.number_in.Goals as goal

pub returns-in-Some-clause-ahead : goal.returns-in-Some-clause-ahead
returns-in-Some-clause-ahead g c =
    let first = c.if-not-is_ascii_digit.ensures.cases in
    number_ends c.args.bytes.now _ 1 (first_digit c.args.bytes.now (omega (arith, c.requires.long)) first.0 first.1) c.args.end c.in-Some.rest.now (omega (arith, first.1)) c.in-Some.ensures

pub loop-at-init : goal.loop-at-init
loop-at-init g c =
    let first = c.if-not-is_ascii_digit.ensures.cases in (
      omega (arith, c.if-value-eq0.false),
      omega (arith, first.1),
      first_digit c.args.bytes.now (omega (arith, c.requires.long)) first.0 first.1,
    )

pub overflow_mul-value : goal.overflow_mul-value
overflow_mul-value g c =
    let l = c.loop-at in
    let few : 10 ^ l.at ≤ 10 ^ 8 = tens_grow l.at 8 (omega (arith, c.loop-at-test.true)) in
    omega (arith, few, l.invariant.1)

pub overflow_add-value : goal.overflow_add-value
overflow_add-value g c =
    let l = c.loop-at in
    let few : 10 ^ l.at ≤ 10 ^ 8 = tens_grow l.at 8 (omega (arith, c.loop-at-test.true)) in
    let digit = c.if-not-is_ascii_digit-2.ensures.cases in
    omega (arith, few, l.invariant.1, digit.0, digit.1)

pub loop-at-preserved : goal.loop-at-preserved
loop-at-preserved g c =
    let l = c.loop-at in
    let few : 10 ^ l.at ≤ 10 ^ 8 = tens_grow l.at 8 (omega (arith, c.loop-at-test.true)) in
    let digit = c.if-not-is_ascii_digit-2.ensures.cases in (
      omega (arith, l.invariant.0),
      omega (arith, l.invariant.1, digit.1, tens_more l.at),
      digit_goes_on c.args.bytes.now l.value l.at l.invariant.2 (omega (arith, c.requires.long, c.loop-at-test.true))
          l.invariant.0 (omega (arith, few, l.invariant.1)) digit.0 digit.1,
    )

pub returns-then-not-is_ascii_digit-2-clause-left : goal.returns-then-not-is_ascii_digit-2-clause-left
returns-then-not-is_ascii_digit-2-clause-left g c = grind (arith, common_steps)

pub returns-clause-ahead : goal.returns-clause-ahead
returns-clause-ahead g c = grind (arith, common_steps)

use Rattle.std.proofs.lemmas.Grind.{common_steps}
use Rattle.sas_task_file.proofs.Imports.{arith, IsTrue, change_in_ranges, plain_effect}
use Rattle.sas_task_file.proofs.LinesReading.{none_appended, one_more_appended}
use Rattle.sas_task_file.proofs.sections.read_effects.Goals as goal

pub loop-i-init : goal.loop-i-init
loop-i-init g c = none_appended _ _ c.in-Some.count _ c.in-Some.ensures

pub loop-i-preserved : goal.loop-i-preserved
loop-i-preserved g c =
    let change = c.in-Some-read_effect.change in
    let exists : IsTrue (change_in_ranges c.args.ranges.now change.var change.old change.new) = let looked = c.if-not-change_in.ensures in let there = c.if-not-change_in.false in cc in
    one_more_appended _ _ (plain_effect change) c.loop-i.invariant c.in_ok-push.ensures.ok c.in-Some-read_effect.ensures exists

pub loop-i-preserved-in_default-read_effect : goal.loop-i-preserved-in_default-read_effect
loop-i-preserved-in_default-read_effect g c =
    let (e, is, ahead) = rw c.in-Some-2.is at c.in_ok-more.ensures.found in
    one_more_appended _ _ e c.loop-i.invariant is ahead.1 ahead.0

pub returns-in_err-more-clause-kept : goal.returns-in_err-more-clause-kept
returns-in_err-more-clause-kept g c = grind (arith, common_steps)

pub returns-in_default-2-clause-kept : goal.returns-in_default-2-clause-kept
returns-in_default-2-clause-kept g c = grind (arith, common_steps)

use Rattle.sas_task_file.proofs.Imports.{IsTrue, fact_in_ranges}
use Rattle.sas_task_file.proofs.LinesReading.{none_appended, one_more_appended}
use Rattle.sas_task_file.proofs.sections.read_facts.Goals as goal

pub loop-i-init : goal.loop-i-init
loop-i-init g c = none_appended _ _ c.in-Some.count _ c.in-Some.ensures

pub loop-i-preserved : goal.loop-i-preserved
loop-i-preserved g c =
    let f = c.in-Some-read_fact.fact in
    let exists : IsTrue (fact_in_ranges c.args.ranges.now f) = let looked = c.if-not-value_in.ensures in let there = c.if-not-value_in.false in cc in
    one_more_appended _ _ f c.loop-i.invariant c.in_ok-push.ensures.items c.in-Some-read_fact.ensures exists

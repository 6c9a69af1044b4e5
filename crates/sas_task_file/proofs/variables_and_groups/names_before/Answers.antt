use Rattle.sas_task_file.proofs.LinesReading.{none_appended, one_more_appended}
use Rattle.sas_task_file.proofs.variables_and_groups.names_before.Goals as goal

pub loop-i-init : goal.loop-i-init
loop-i-init g c = none_appended _ _ c.in-Some.count _ c.in-Some.ensures

pub loop-i-preserved : goal.loop-i-preserved
loop-i-preserved g c =
    let named = c.in-Some-read_name.ensures in
    one_more_appended _ _ c.in-Some-read_name.name.now c.loop-i.invariant c.in_ok-push.ensures.ok named.1 named.0

use Rattle.sas_task_file.proofs.Imports.{IsTrue, change_in_ranges}
use Rattle.sas_task_file.proofs.AheadReading.{head_is_ahead}
use Rattle.sas_task_file.proofs.LinesReading.{two_lines}
use Rattle.sas_task_file.proofs.sections.head_before.Goals as goal

pub returns : goal.returns
returns g c =
    let head = c.in_ok-head.head in
    let exist : IsTrue (change_in_ranges c.args.ranges.now head.var head.old head.new) = let looked = c.change_in.ensures in let there = c.if-not-change_in.false in cc in
    (exist, two_lines (head_is_ahead c.args.bytes.now c.in_ok-head.rest.now head c.in_ok-head.ensures) c.in_ok-rest.ensures)

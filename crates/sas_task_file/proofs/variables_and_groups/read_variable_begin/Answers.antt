use Rattle.sas_task_file.proofs.AheadReading.{signed_is_ahead}
use Rattle.sas_task_file.proofs.LinesReading.{lines_then, one_line, two_lines}
use Rattle.sas_task_file.proofs.variables_and_groups.read_variable_begin.Goals as goal

pub returns : goal.returns
returns g c =
    let named = c.in_ok-name.ensures in
    let layer = signed_is_ahead c.in_ok-name.rest.now c.in_ok-layer.rest.now c.in_ok-layer.layer c.in_ok-layer.ensures in
    (named.0, lines_then (two_lines c.in_ok-rest.ensures named.1) (one_line layer))

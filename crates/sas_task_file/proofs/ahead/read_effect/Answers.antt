use Rattle.sas_task_file.proofs.Imports.{arith, IfSome_then}
use Rattle.sas_task_file.proofs.AheadReading.{bytes_in_front, plain_effect_is_ahead}
use Rattle.sas_task_file.proofs.ahead.read_effect.Goals as goal

pub returns : goal.returns
returns g c =
    let bytes = c.args.bytes.now in
    let first = bytes_in_front bytes 48 32 (omega (arith, c.if-bytes.false)) c.if-bytes-ne48.false c.if-bytes-ne32.false in
    IfSome_then c.change_in_line.result c.change_in_line.ensures (λ found h. plain_effect_is_ahead bytes _ found.1.now found.0 first h)

use Rattle.std.proofs.Common.{codes}
use Rattle.sas_tool.proofs.Putting.{puts_both}
use Rattle.sas_tool.proofs.endings.put_line.Goals as goal

pub returns : goal.returns
returns g c = puts_both g.E.Write.contents c.args.line.now (codes "\n") _ _ _ c.put.ensures c.put-2.ensures

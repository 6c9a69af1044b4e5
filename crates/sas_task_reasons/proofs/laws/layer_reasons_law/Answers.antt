use Rattle.sas_task_reasons.proofs.WholeReasons.{reasons_are_whole}
use Rattle.sas_task_reasons.proofs.laws.layer_reasons_law.Goals as goal

pub returns : goal.returns
returns c = reasons_are_whole

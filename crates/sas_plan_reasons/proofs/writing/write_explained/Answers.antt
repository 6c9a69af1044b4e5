use Rattle.sas_plan_reasons.proofs.Imports.{arith, reasons_text, writes_as}
use Rattle.sas_plan_reasons.proofs.writing.write_explained.Goals as goal

pub returns : goal.returns
returns g c = search (arith, reasons_text, writes_as)

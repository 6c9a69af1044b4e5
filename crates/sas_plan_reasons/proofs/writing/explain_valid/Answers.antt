use Rattle.sas_plan_reasons.proofs.Imports.{arith, reasons_text}
use Rattle.std.proofs.Common.{append-nil}
use Rattle.sas_plan_reasons.proofs.writing.explain_valid.Goals as goal

pub returns : goal.returns
returns c p operators valid = search (arith, reasons_text, append-nil)

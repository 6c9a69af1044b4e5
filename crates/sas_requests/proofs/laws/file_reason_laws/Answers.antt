use Rattle.sas_requests.proofs.FileReasonLines.{file_lines_are_reasons}
use Rattle.sas_requests.proofs.laws.file_reason_laws.Goals as goal

pub returns : goal.returns
returns c = file_lines_are_reasons

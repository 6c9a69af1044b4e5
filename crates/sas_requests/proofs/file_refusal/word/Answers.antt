use Rattle.sas_requests.proofs.Imports.{rules}
use Rattle.sas_requests.proofs.file_refusal.word.Goals as goal

pub returns-in-TooLong-clause-memory : goal.returns-in-TooLong-clause-memory
returns-in-TooLong-clause-memory c = search rules

pub returns-in-TooLong-clause-long : goal.returns-in-TooLong-clause-long
returns-in-TooLong-clause-long c = search rules

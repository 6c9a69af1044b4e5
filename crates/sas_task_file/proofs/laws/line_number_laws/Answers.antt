use Rattle.sas_task_file.proofs.Beginnings.{operators_begin, rules_begin}
use Rattle.sas_task_file.proofs.laws.line_number_laws.Goals as goal

pub returns-clause-operators : goal.returns-clause-operators
returns-clause-operators c = operators_begin

pub returns-clause-rules : goal.returns-clause-rules
returns-clause-rules c = rules_begin

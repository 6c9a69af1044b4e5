use Rattle.sas_answers.proofs.PlainLines.{is_reason_line}
use Rattle.sas_answers.proofs.RuleLines.{rule_lines_differ}
use Rattle.sas_answers.proofs.laws.line_laws.Goals as goal

pub returns-clause-reasons : goal.returns-clause-reasons
returns-clause-reasons c = is_reason_line

pub returns-clause-differ : goal.returns-clause-differ
returns-clause-differ c = rule_lines_differ

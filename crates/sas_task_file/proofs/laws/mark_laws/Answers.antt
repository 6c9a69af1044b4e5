use Rattle.sas_task_file.proofs.Imports.{about_laws_of, table_node, TaskLineFits, task_format, table_start}
use Rattle.sas_task_file.proofs.CountLaws.{one_count, some_count}
use Rattle.sas_task_file.proofs.MarkLaws.{one_due, some_due, one_wrong_word, one_task_reason}
use Rattle.sas_task_file.proofs.SomeReason.{some_task_reason}
use Rattle.sas_task_file.proofs.SomeWrongWord.{some_wrong_word, wrong_word_is_named}
use Rattle.sas_task_file.proofs.TaskGrammar.{task_grammar}
use Rattle.sas_task_file.proofs.laws.mark_laws.Goals as goal

pub returns-clause-one_due : goal.returns-clause-one_due
returns-clause-one_due c = one_due

pub returns-clause-some_due : goal.returns-clause-some_due
returns-clause-some_due c = some_due

pub returns-clause-one_count : goal.returns-clause-one_count
returns-clause-one_count c = one_count

pub returns-clause-some_count : goal.returns-clause-some_count
returns-clause-some_count c = some_count

pub returns-clause-one_wrong_word : goal.returns-clause-one_wrong_word
returns-clause-one_wrong_word c = one_wrong_word

pub returns-clause-some_wrong_word : goal.returns-clause-some_wrong_word
returns-clause-some_wrong_word c = some_wrong_word

pub returns-clause-about : goal.returns-clause-about
returns-clause-about c = about_laws_of task_format TaskLineFits table_node table_start task_grammar

pub returns-clause-one_reason : goal.returns-clause-one_reason
returns-clause-one_reason c = one_task_reason

pub returns-clause-some_reason : goal.returns-clause-some_reason
returns-clause-some_reason c = some_task_reason

pub returns-clause-word_is_named : goal.returns-clause-word_is_named
returns-clause-word_is_named c = wrong_word_is_named

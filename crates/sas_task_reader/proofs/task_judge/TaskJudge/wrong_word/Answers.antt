use Rattle.sas_task_reader.proofs.Marking.{where_due, where_due_if}
use Rattle.sas_task_reader.proofs.task_judge.TaskJudge.wrong_word.Goals as goal

pub returns-in-Fact-clause-word : goal.returns-in-Fact-clause-word
returns-in-Fact-clause-word c = where_due c.args.self.now c.row.result c.args.line.now _ c.row.ensures (rw c.in-Fact.is c.wrong_in_fact.ensures)

pub returns-in-Head-clause-word : goal.returns-in-Head-clause-word
returns-in-Head-clause-word c = where_due c.args.self.now c.row.result c.args.line.now _ c.row.ensures (rw c.in-Head.is c.wrong_in_head.ensures)

pub returns-in-Effect-clause-word : goal.returns-in-Effect-clause-word
returns-in-Effect-clause-word c = where_due_if c.args.self.now c.row.result c.args.line.now _ c.row.ensures (rw c.in-Effect.is c.wrong_in_effect.ensures)

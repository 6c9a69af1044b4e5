use Rattle.sas_task_reader.proofs.Imports.{rules, ◌≡◌, Some, result_err}
use Rattle.sas_task_reader.proofs.TaskMoves.{took, noted, refused, refused_as}
use Rattle.sas_task_reader.proofs.task_judge.TaskJudge.take.Goals as goal

pub returns-in_err-parse-clause-judges : goal.returns-in_err-parse-clause-judges
returns-in_err-parse-clause-judges c =
    let same : result_err c.from_residual.result ≡ Some c.in_err-parse.field-0.0 = search rules in
    refused_as c.args.self.now _ c.args.line.now _ _ same (refused c.args.self.now c.requires c.args.line.now c.row-row.result c.row-row.ensures c.parse.new.self c.in_err-parse.field-0.0 c.in_err-parse.ensures)

pub returns-clause-judges : goal.returns-clause-judges
returns-clause-judges c = took c.args.self.now c.requires c.args.line.now c.row-row.result c.row-row.ensures c.parse.new.self c.move_on.new.self c.note.new.self c.in_ok-parse.ensures c.in_ok-move_on.ensures.ok

pub returns-clause-notes : goal.returns-clause-notes
returns-clause-notes c = noted c.args.self.now c.requires c.args.line.now c.row-row.result c.row-row.ensures c.parse.new.self c.move_on.new.self c.note.new.self c.args.number c.in_ok-move_on.ensures.ok c.note.ensures

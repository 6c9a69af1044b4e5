use Rattle.sas_task_reader.proofs.Imports.{∥∥₁_map, ◌++◌, table_node, task_format, TaskLineFits, table_start, reader_behavior, feeds}
use Rattle.sas_task_file.proofs.TaskGrammar.{task_grammar}
use Rattle.sas_task_reader.proofs.TaskStanding.{reader_follows}
use Rattle.sas_task_reader.proofs.task_reader.TaskReader.feed.Goals as goal

pub returns : goal.returns
returns c =
    let f = feeds task_format TaskLineFits table_node table_start task_grammar reader_behavior reader_follows _ _ _ _ c.feed.ensures in
    record { stands = f.stands; live = f.live; fault = f.fault; answer = f.answer; kept = f.kept; kind = f.kind; memory = f.memory; limit = f.limit }

pub invariant_of-self : goal.invariant_of-self
invariant_of-self c = record { some = ∥∥₁_map c.args.self.now.some (λ s. (s.0 ++ c.args.piece.now, c.feed.ensures.stands s.0 s.1)) }

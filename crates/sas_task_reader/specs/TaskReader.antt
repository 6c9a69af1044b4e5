-- What a reader of tasks represents.
use Rattle.sas_core.specs.declared.parts.Parts.{Parts}
use Rattle.sas_reader.specs.Reader as reading
use Rattle.sas_reader.specs.Reading.{View}
use Rattle.sas_task_file.specs.TaskFormat.{TaskLine, TaskSlot, task_format}
use Rattle.sas_task_reader.specs.declared.task_reader.TaskReader.{TaskReader}
use Rattle.sas_task_reader.specs.TaskMachine.{reader_behavior}

-- How contracts view a reader of tasks. Without a fault it represents the bytes that it has taken:
-- it has accepted their complete lines, their rest is the pending line, and their length was
-- counted. With a fault other than `Memory`, the bytes have this fault.
abbrev pub task_view : View Parts TaskLine TaskSlot TaskReader
task_view = record {
  format = task_format;
  Stands = λ r bytes. reading.Stands reader_behavior r.reader bytes;
  fault = λ r. r.reader.fault;
  limit = λ r. r.reader.limit;
}

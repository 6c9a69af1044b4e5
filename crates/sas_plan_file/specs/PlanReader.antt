-- What a reader of plans represents.
use Rattle.sas_core.specs.PlanParts.{PlanParts}
use Rattle.sas_reader.specs.Reader as reading
use Rattle.sas_reader.specs.Reading.{View}
use Rattle.sas_plan_file.specs.declared.plan_reader.PlanReader.{PlanReader}
use Rattle.sas_plan_file.specs.PlanFormat.{PlanLine, plan_format}
use Rattle.sas_plan_file.specs.PlanMachine.{plan_behavior}

-- How contracts view a reader of plans. Without a fault it represents the bytes that it has taken:
-- it has accepted their complete lines, their rest is the pending line, and their length was
-- counted. With a fault other than `Memory`, the bytes have this fault.
abbrev pub plan_view : View PlanParts PlanLine (Unit {0}) PlanReader
plan_view = record {
  format = plan_format;
  Stands = λ r bytes. reading.Stands plan_behavior r.reader bytes;
  fault = λ r. r.reader.fault;
  limit = λ r. r.reader.limit;
}

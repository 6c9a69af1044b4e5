-- The text of a plan, stored while its lines are read.
use Rattle.std.specs.Prelude.{◌≡◌, ℕ, List, IsTrue, ◌↔◌}
use Rattle.sas_lines.specs.Lines.{text}
use Rattle.sas_plan_file.specs.declared.plan_text.PlanText.{PlanText}
use Rattle.sas_plan_file.specs.PlanFormat.{plan_format, PlanLineFits}
use Rattle.sas_plan_file.specs.PlanMachine.{PlanState, plan_line_ok, plan_node, plan_start, HasCostLine}
use Rattle.sas_reader.specs.Machine.{Behavior}
use Rattle.sas_reader.specs.System.{IsRejected, Leads}

-- a plan may begin with the lines; they are stored as a text, and `closed` is whether the cost is
-- among them
pub record KeepsLines (lines : List (List ℕ)) (m : PlanText) : Type 0 where
  pub state : PlanState
  pub leads : Leads plan_format PlanLineFits plan_node plan_start lines state
  pub kept : m.text.items ≡ text lines
  pub closed : IsTrue m.closed ↔ HasCostLine state

-- a refused line doesn't change the text
abbrev pub text_behavior : Behavior PlanText
text_behavior = record {
  led_by = KeepsLines;
  ended = λ m. IsTrue m.closed;
  rejects = λ m line k. IsRejected plan_format PlanLineFits tt plan_line_ok line k;
  stopped = λ old line k new. new ≡ old;
}

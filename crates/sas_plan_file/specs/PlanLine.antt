-- How the code parses a line of a plan file.
use Rattle.std.specs.Prelude.{◌≡◌, ℕ, List, [], ◌∷◌, ◌++◌, Result, Ok, Err}
use Rattle.std.specs.Fmt.{decimal}
use Rattle.sas_core.specs.declared.plan.CostKind.{CostKind}
use Rattle.sas_core.specs.Names.{IsName}
use Rattle.sas_core.specs.Numbers.{IsPlanCost}
use Rattle.sas_lines.specs.FirstLines.{EndedLines}
use Rattle.sas_reader.specs.declared.fault.Kind.{Kind}
use Rattle.sas_plan_file.specs.declared.plan_line.PlanLine as code
use Rattle.sas_plan_file.specs.declared.plan_line.PlanLine.TheVariants as variants
use Rattle.sas_plan_file.specs.PlanFormat.{PlanLine, step, cost, plan_line_bytes, plan_format, cost_words, PlanLineFits}
use Rattle.sas_plan_file.specs.PlanMachine.{plan_line_ok}
use Rattle.sas_reader.specs.System.{IsAllowed, IsRejected}

-- after its first words, the cost is its digits and its last words
abbrev pub Costs : List ℕ → ℕ → CostKind → Type 0
Costs rest n kind = IsPlanCost n × (rest ≡ decimal n ++ cost_words kind)

-- the line that the code's result represents
abbrev pub line_said : code.PlanLine → PlanLine
line_said (variants.Step name) = step name.now
line_said (variants.Cost n kind) = cost n kind

-- the line spells the result; or it may not stand in a plan, and this is the kind of its fault
abbrev pub JudgesPlanLine : List ℕ → Result code.PlanLine Kind → Type 0
JudgesPlanLine line (Ok said) =
    IsAllowed plan_format PlanLineFits tt plan_line_ok (line_said said)
    × (plan_line_bytes (line_said said) ≡ line)
JudgesPlanLine line (Err kind) = IsRejected plan_format PlanLineFits tt plan_line_ok line kind

-- the bytes are the line of this step, its end, and the rest
pub record StepStandsFirst (bytes name rest : List ℕ) : Type 0 where
  pub is_name : IsName name
  pub are : EndedLines (plan_line_bytes (step name) ∷ []) rest bytes

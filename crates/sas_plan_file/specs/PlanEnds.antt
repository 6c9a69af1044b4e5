-- What alone may be missing at the end of a plan file.
use Rattle.std.specs.Prelude.{◌≡◌, ℕ, List, [], ◌∷◌, ◌++◌}
use Rattle.sas_core.specs.declared.plan.CostKind.{CostKind}
use Rattle.sas_core.specs.Numbers.{IsPlanCost}
use Rattle.sas_lines.specs.Lines.{without_return, unfinished}
use Rattle.sas_reader.specs.declared.fault.Kind.{Kind}
use Rattle.sas_reader.specs.declared.fault.Kind.TheVariants as kinds
use Rattle.sas_reader.specs.Format.{AreAllLines, IsText}
use Rattle.sas_reader.specs.Found.{IsEnclosed}
use Rattle.sas_plan_file.specs.PlanFormat.{cost, plan_line_bytes, plan_format}

-- the line is a cost
abbrev pub IsCostLine : List ℕ → Type 0
IsCostLine line = (n : ℕ) × (kind : CostKind) × IsPlanCost n × (plan_line_bytes (cost n kind) ≡ line)

-- LF behind a rest, if there is one
abbrev pub end_behind : List ℕ → List ℕ
end_behind [] = []
end_behind (b ∷ rest) = 10 ∷ []

-- the bytes, with LF behind them if they don't end with LF (no bytes stay so)
abbrev pub with_end : List ℕ → List ℕ
with_end bytes = bytes ++ end_behind (unfinished bytes)

-- only the cost line is missing: the bytes so ended, followed by a cost line, are a plan
abbrev pub LacksCostLine : List ℕ → Type 0
LacksCostLine bytes = (line : List ℕ) × IsCostLine line
    × IsText plan_format (with_end bytes ++ (line ++ 10 ∷ []))

-- the line that the rest behind the last LF becomes when it is ended; no rest is no line
abbrev pub rest_line : List ℕ → List (List ℕ)
rest_line [] = []
rest_line (b ∷ rest) = without_return (b ∷ rest) ∷ []

-- the rest is a step, if there is one
abbrev pub IsStepIfSome : List ℕ → Type 0
IsStepIfSome [] = Unit {0}
IsStepIfSome (b ∷ rest) = IsEnclosed (without_return (b ∷ rest))

-- the same, by what the fault of the bytes is about
abbrev pub EndsWithoutCost : Kind → List (List ℕ) → List ℕ → Type 0
EndsWithoutCost kind accepted text = (kind ≡ kinds.End) × (line : List ℕ) × IsCostLine line
    × AreAllLines plan_format ((accepted ++ rest_line text) ++ line ∷ [])

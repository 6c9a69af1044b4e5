-- What is wrong with a line of a plan file, and the format of plan files.
use Rattle.std.specs.Prelude.{◌≡◌, ℕ, List, length, take, codes, ◌⊎◌, [], ◌∷◌, ◌++◌}
use Rattle.sas_core.specs.PlanParts.{PlanParts}
use Rattle.sas_core.specs.Numbers.{IsPlanCost}
use Rattle.sas_reader.specs.declared.fault.Kind.{Kind}
use Rattle.sas_reader.specs.declared.fault.Kind.TheVariants.{Keyword, Name, Shape}
use Rattle.sas_reader.specs.Format.{Format, IsBegun}
pub use Rattle.sas_plan_file.specs.PlanTexts.{PlanLine, step, cost, cost_words, cost_front, plan_line_bytes, plan_layout, plan_texts}
use Rattle.sas_core.specs.declared.plan.CostKind.TheVariants as costs
use Rattle.sas_core.specs.WellNamed.{WellNamed}
use Rattle.sas_reader.specs.Texts.{lines_of}

-- a cost is at most 18,446,744,073,709,551,615
abbrev pub PlanLineFits : PlanLine → Type 0
PlanLineFits (step name) = Unit {0}
PlanLineFits (cost n kind) = IsPlanCost n

-- the line begins with these bytes
abbrev pub BeginsWith : List ℕ → List ℕ → Type 0
BeginsWith front line = take (length front) line ≡ front

-- the kind of fault of a wrong line: it begins like a step, like the cost, or like neither
pub data PlanKind (line : List ℕ) : Kind → Type 0 where
  like_step : BeginsWith (codes "(") line → PlanKind line Name
  like_cost : BeginsWith cost_front line → PlanKind line Shape
  like_none : (BeginsWith (codes "(") line → ⊥) → (BeginsWith cost_front line → ⊥)
      → PlanKind line Keyword

-- the format of plan files; any line may be a step or the cost, so there is one slot
abbrev pub plan_format : Format PlanParts PlanLine (Unit {0})
plan_format = record {
  texts = plan_texts;
  slot_of = λ _. tt;
  KindOf = λ _ line kind. PlanKind line kind;
}

-- the line `; cost = 0 (unit cost)`
abbrev pub filling_cost_line : List ℕ
filling_cost_line = plan_line_bytes (cost 0 costs.Unit)

-- lines that begin a plan are all lines of some plan, with or without the filling at the end
abbrev pub PlanIsFilled : Type 0
PlanIsFilled = (begun : List (List ℕ)) → IsBegun plan_format begun → (p : PlanParts)
    × WellNamed p
    × ((lines_of plan_texts p ≡ begun)
    ⊎ (lines_of plan_texts p ≡ begun ++ filling_cost_line ∷ []))

-- A plan is read, or is refused with the text at its fault.
use Rattle.std.specs.Prelude.{◌↔◌, ℕ, List, Option, Result, IsTrue}
use Rattle.sas_lines.specs.Device.{Device}
use Rattle.sas_reader.specs.declared.fault.Fault.{Fault}
use Rattle.sas_reader.specs.declared.found.Excerpt.{Excerpt}
use Rattle.sas_reader.specs.About.{EndsUnended}
use Rattle.sas_reader.specs.Refusals.{ExplainsRefusal, ReadsOrExplains}
use Rattle.sas_plan_file.specs.declared.plan_refusal.PlanRefusal.{PlanRefusal}
use Rattle.sas_plan_file.specs.PlanEnds.{EndsWithoutCost}
use Rattle.sas_plan_file.specs.PlanFormat.{plan_format}

abbrev pub fault_of : PlanRefusal → Fault
fault_of r = r.fault

abbrev pub found_of : PlanRefusal → Excerpt
found_of r = r.found

-- after these accepted lines, the refusal tells whether the text lacks only its line end, and
-- whether only the cost line is missing behind it
pub record TellsLacks (accepted : List (List ℕ)) (text : List ℕ) (r : PlanRefusal) : Type 0 where
  pub line_end : IsTrue r.lacks_line_end ↔ EndsUnended plan_format r.fault.kind accepted text
  pub cost_line : IsTrue r.lacks_cost_line ↔ EndsWithoutCost r.fault.kind accepted text

-- the promise of a call that reads a plan from a device, or refuses it with the text at its fault
abbrev pub ReadsPlan : {D A : Type 0} → (D → Option (List ℕ)) → (List ℕ → A → Type 0) → Device D
    → Device D → Result A PlanRefusal → Type 0
ReadsPlan left Gives old new result =
    ReadsOrExplains plan_format fault_of found_of TellsLacks left Gives old new result

-- the refusal has the text at the fault of these bytes
abbrev pub ExplainsPlan : List ℕ → PlanRefusal → Type 0
ExplainsPlan bytes r = ExplainsRefusal plan_format fault_of found_of TellsLacks bytes r

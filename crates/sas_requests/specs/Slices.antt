-- Plans whose bytes are all in memory.
use Rattle.std.specs.Prelude.{ℕ, List, [], map, slice_index_or, ⊤, Option, Some}
use Rattle.sas_requests.specs.declared.inputs.InputFault.TheVariants.{NotOpened}
use Rattle.sas_requests.specs.declared.inputs.JudgeFault.{JudgeFault}
use Rattle.sas_requests.specs.declared.inputs.JudgeFault.TheVariants.{Plan}
use Rattle.sas_requests.specs.declared.slices.PlanBytes.{PlanBytes}

-- their labels
abbrev pub labels_of : List PlanBytes → List (List ℕ)
labels_of plans = map (λ (plan : PlanBytes). plan.label.now) plans

-- and their bytes
abbrev pub bytes_of : List PlanBytes → List (List ℕ)
bytes_of plans = map (λ (plan : PlanBytes). plan.bytes.now) plans

-- the bytes of the plan with a number, which are known
abbrev pub known_bytes : List PlanBytes → ℕ → Option (List ℕ)
known_bytes plans number = Some (slice_index_or (bytes_of plans) number [])

-- the fault isn't that a plan couldn't be opened
abbrev pub IsOfOpened : JudgeFault → Type 0
IsOfOpened (Plan number NotOpened) = ⊥
IsOfOpened fault = ⊤

-- How the writing of an answer ends.
use Rattle.std.proofs.Common.{arith}
use Rattle.std.proofs.lemmas.Grind.{common_steps}
use Rattle.sas_answers.specs.declared.ending.ToolFault.TheVariants as faults
use Rattle.sas_requests.proofs.Imports.{◌≡◌, ℕ, Bool, true, false, List, Option, Some, None, Result, Ok, Err, none-some, Status, ToolFault, Output, Ends, EndsPlans, counting_ends}

-- if the writing ends with this output, it ends with a right output
pub ends_as : (o : Output) (Sent : List ℕ → Type 0) (Out : Option Output → Type 0) (r : Result Status ToolFault) → Out (Some o) → Ends (λ output. output ≡ Some o) Sent r → Ends Out Sent r
ends_as o Sent Out r right is = grind (arith, common_steps, none-some)

-- what ends with an output ends with another that follows from it
pub ends_more : (Sent : List ℕ → Type 0) (A B : Option Output → Type 0) (r : Result Status ToolFault) → ((o : Option Output) → A o → B o) → Ends A Sent r → Ends B Sent r
ends_more Sent A B r to ends = grind (arith, common_steps)

-- ---- of a run over many plans

pub ends_plans : (reasons : Bool) (Sent : List ℕ → Type 0) (A : Option Output → Type 0) (r : Result Status ToolFault) → Ends A Sent r → EndsPlans reasons A Sent r
ends_plans true Sent A r ends = counting_ends A Sent r ends
ends_plans false Sent A r ends = ends

pub plans_end_well : (reasons : Bool) (Sent : List ℕ → Type 0) (A : Option Output → Type 0) (status : Status) → EndsPlans reasons A Sent (Ok status) → Ends A Sent (Ok status)
plans_end_well true Sent A status ends = ends
plans_end_well false Sent A status ends = ends

pub plans_end_long : (reasons : Bool) (Sent : List ℕ → Type 0) (A : Option Output → Type 0) → EndsPlans reasons A Sent (Err faults.TooLong) → A None
plans_end_long true Sent A ends = ends
plans_end_long false Sent A ends = ends

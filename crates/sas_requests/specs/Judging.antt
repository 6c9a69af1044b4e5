-- What the private steps of a run over many plans promise.
use Rattle.std.specs.Prelude.{◌≡◌, ◌≢◌, ℕ, ◌+◌, ◌<◌, nat_lt, Bool, true, if◌then◌else◌, List, [], length}
use Rattle.std.specs.Prelude.{slice_index_or, flat_map, zip, ⊤, Option, Some, None, Result, Ok, Err, IfErr, IsErrOf}
use Rattle.sas_core.specs.declared.parts.Parts.{Parts}
use Rattle.sas_answers.specs.declared.ending.Status.{Status}
use Rattle.sas_answers.specs.declared.ending.Status.TheVariants.{Yes, No}
use Rattle.sas_answers.specs.declared.ending.ToolFault.{ToolFault}
use Rattle.sas_answers.specs.declared.ending.ToolFault.TheVariants as fault
use Rattle.sas_answers.specs.Ending.{Ends, IsDecided, output_of}
use Rattle.sas_requests.specs.declared.inputs.InputFault.TheVariants.{NotOpened, TooLong}
use Rattle.sas_requests.specs.declared.inputs.JudgeFault.{JudgeFault}
use Rattle.sas_requests.specs.declared.inputs.JudgeFault.TheVariants as judge_fault
use Rattle.sas_requests.specs.declared.tally.BestPlan.{BestPlan}
use Rattle.sas_requests.specs.declared.tally.Tally.{Tally}
use Rattle.sas_requests.specs.declared.verdicts.PlanAnswer.{PlanAnswer}
use Rattle.sas_requests.specs.Inputs.{HaveBytes, WasRead, WereRead, tool_result}
use Rattle.sas_requests.specs.InTurn.{IsRightlyLong}
use Rattle.sas_requests.specs.Judged.{Judged, IsJudged, PlanSaid, PlansOut, Tallies, costs_of, labelled}

-- ---- one plan

-- this holds of the bytes of a plan where these are known, and of those that were read of it
abbrev pub HoldsOf : Option (List ℕ) → (List ℕ → Type 0) → Type 0
HoldsOf known Holds = ((c : List ℕ) → known ≡ Some c → Holds c)
    × ((c : List ℕ) × WasRead known c × Holds c)

-- what an answer says of a plan
abbrev pub judged_of : PlanAnswer → Judged
judged_of answered = record { output = output_of answered.answer; cost = answered.cost }

-- the cost of a plan, if the answer about it is yes
abbrev pub cost_if : Status → ℕ → Option ℕ
cost_if Yes cost = Some cost
cost_if No cost = None

-- what the answer about a plan promises that is read to its end or to its first fault; `known` are
-- its bytes, where they are known
abbrev pub Judges : (reasons : Bool) → Parts → Option (List ℕ) → Result PlanAnswer ToolFault
    → Type 0
Judges reasons p known (Ok report) =
    HoldsOf known (λ c. IsJudged reasons p c (judged_of report))
Judges reasons p known (Err fault.TooLong) = HoldsOf known (λ c. PlanSaid reasons p c None)
Judges reasons p known (Err (fault.Write written)) = ⊥
Judges reasons p known (Err fault.Memory) = ⊤
Judges reasons p known (Err fault.Read) = ⊤

-- why nothing is reported of a plan: where it is too long, that is right for its bytes
abbrev pub IsUnsaid : (reasons : Bool) → Parts → (ℕ → Option (List ℕ)) → JudgeFault → Type 0
IsUnsaid reasons p known (judge_fault.Plan number TooLong) =
    HoldsOf (known number) (λ c. PlanSaid reasons p c None)
IsUnsaid reasons p known (judge_fault.Plan number what) = ⊤
IsUnsaid reasons p known (judge_fault.Tool why) = why ≡ fault.Memory

-- the fault of a plan that was opened, the one with this number; or another fault, at which no plan
-- is to be reported
abbrev pub IsBehindOpening : ℕ → JudgeFault → Type 0
IsBehindOpening number (judge_fault.Plan other what) = (other ≡ number) × (what ≢ NotOpened)
IsBehindOpening number (judge_fault.Tool why) = (why ≢ fault.Read) × (why ≢ fault.TooLong)

-- ---- some first plans

-- nothing
abbrev pub unjudged : Judged
unjudged = record { output = record { text = []; status = No }; cost = None }

-- whether the cost is lower than that of the best plan so far, or there is none
abbrev pub is_lower : ℕ → Option BestPlan → Bool
is_lower cost None = true
is_lower cost (Some best) = nat_lt cost best.cost

-- the best plan, with one more that is valid, and has this number and this cost
abbrev pub better : ℕ → ℕ → Option BestPlan → Option BestPlan
better number cost best =
    if is_lower cost best then Some (record { cost = cost; number = number }) else best

-- the tally of one plan more, which has this number, and this cost if it is valid
abbrev pub tally_with : ℕ → Option ℕ → Tally → Tally
tally_with number None tally = tally
tally_with number (Some cost) tally =
    record { valid = tally.valid + 1; best = better number cost tally.best }

-- this text is what is printed of so many first plans, and this their tally
pub record AreAnswered (reasons : Bool) (p : Parts) (known : ℕ → Option (List ℕ))
    (labels : List (List ℕ)) (count : ℕ) (text : List ℕ) (tally : Tally) : Type 0 where
  pub all : List Judged
  pub many : length all ≡ count
  pub each : (number : ℕ) → number < count
      → HoldsOf (known number) (λ c. IsJudged reasons p c (slice_index_or all number unjudged))
  pub whole : text ≡ flat_map labelled (zip labels all)
  pub counts : Tallies (costs_of all) tally

-- ---- all plans

-- What the judging of the plans of a layered task promises. `known` maps a plan's number to its
-- bytes, where these are known. `Sent` holds of the bytes of the answer, as far as it went out.
pub record JudgesPlans (reasons : Bool) (p : Parts) (known : ℕ → Option (List ℕ))
    (labels : List (List ℕ)) (Sent : List ℕ → Type 0) (result : Result Status JudgeFault)
    : Type 0 where
  -- of plans whose bytes are known, the answer is their output
  pub output : (cs : List (List ℕ)) → HaveBytes known (length labels) cs
      → Ends (PlansOut reasons p labels cs) Sent (tool_result result)
  -- and of any plans, the output for the bytes that were read of them
  pub taken : IsDecided (tool_result result) → (cs : List (List ℕ))
      × WereRead known (length labels) cs
      × Ends (PlansOut reasons p labels cs) Sent (tool_result result)
  pub long : IfErr result (IsRightlyLong known)
  pub reads : IsErrOf result (judge_fault.Tool fault.Read) → ⊥

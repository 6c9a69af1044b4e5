-- What `plans` prints: of each of many plans what `plan` prints of it, with a label in front, and
-- how many of them are valid.
use Rattle.std.specs.Prelude.{◌≡◌, ◌⊎◌, ℕ, ◌<◌, ◌≤◌, Bool, true, false, is_some, if◌then◌else◌, List, [], ◌∷◌, ◌++◌, length, All, slice_index_or, map, flat_map, count_by, zip, Contains, codes, decimal, Option, Some, None, Result, Ok, ◌↔◌}
use Rattle.std.specs.List.{AllZip, list_all}
use Rattle.sas_task_file.specs.TaskFormat.{task_format}
use Rattle.sas_reader.specs.Format.{ReadsAs}
use Rattle.sas_meaning.specs.Layers.{IsLayered}
use Rattle.sas_core.specs.declared.parts.Parts.{Parts}
use Rattle.sas_core.specs.PlanParts.{PlanParts}
use Rattle.sas_reader.specs.Limit.{most_bytes}
use Rattle.sas_reader.specs.Texts.{Reads}
use Rattle.sas_plan_file.specs.PlanTexts.{plan_texts}
use Rattle.sas_answers.specs.declared.ending.Status.{Status}
use Rattle.sas_answers.specs.declared.ending.Status.TheVariants.{Yes, No}
use Rattle.sas_answers.specs.declared.ending.ToolFault.{ToolFault}
use Rattle.sas_answers.specs.Ending.{Ends, EndsCounting, Output}
use Rattle.sas_plan_reasons.specs.VerdictBy.{VerdictWith}
use Rattle.sas_plan_reasons.specs.declared.detail.Detail.{Detail}
use Rattle.sas_requests.specs.declared.question.Request.TheVariants.{Plan}
use Rattle.sas_requests.specs.declared.tally.BestPlan.{BestPlan}
use Rattle.sas_requests.specs.declared.tally.Tally.{Tally}
use Rattle.sas_requests.specs.Answering.{PlanBy, TaskBy, UnlayeredBy}
use Rattle.sas_requests.specs.OutBy.{OutBy}
use Rattle.sas_requests.specs.Output.{IsLayeredText}
use Rattle.sas_requests.specs.SameAnswer.{IsSameAnswer, is_reason, without_reasons}
use Rattle.sas_requests.specs.Inputs.{IsLabel}
use Rattle.sas_lines.specs.Lines.{lines}
use Rattle.sas_answers.specs.ValidLine.{valid_line}
use Rattle.sas_requests.specs.Headline.{Solves}

-- what is said of a plan: the output of `plan`, and the plan's cost if it is valid
pub record Judged : Type 0 where
  pub output : Output
  pub cost : Option ℕ

-- the cost of a plan with these bytes, by the status of the answer about it
abbrev pub HasCost : List ℕ → Status → Option ℕ → Type 0
HasCost c Yes cost = (plan : PlanParts) × Reads plan_texts c plan × (cost ≡ Some plan.cost)
HasCost c No cost = cost ≡ None

-- the output of `plan` for the plan's bytes and a layered task, with reasons or without
abbrev pub PlanSaid : (reasons : Bool) → Parts → List ℕ → Option Output → Type 0
PlanSaid reasons p = PlanBy reasons (VerdictWith false reasons p)

-- this is said of the plan with these bytes
abbrev pub IsJudged : (reasons : Bool) → Parts → List ℕ → Judged → Type 0
IsJudged reasons p c judged =
    PlanSaid reasons p c (Some judged.output) × HasCost c judged.output.status judged.cost

-- ---- the best of the valid plans

-- the costs of the plans; a plan that isn't valid has none
abbrev pub costs_of : List Judged → List (Option ℕ)
costs_of all = map (λ (judged : Judged). judged.cost) all

-- the first of the valid plans that cost least: those before it cost more
pub record IsBest (costs : List (Option ℕ)) (best : BestPlan) : Type 0 where
  pub front : List (Option ℕ)
  pub behind : List (Option ℕ)
  pub whole : costs ≡ front ++ Some best.cost ∷ behind
  pub number : length front ≡ best.number
  pub dearer : All (λ (cost : Option ℕ). (c : ℕ) → cost ≡ Some c → best.cost < c) front
  pub no_cheaper : All (λ (cost : Option ℕ). (c : ℕ) → cost ≡ Some c → best.cost ≤ c) behind

-- the best of the plans; there is none where no plan is valid
abbrev pub HasBest : List (Option ℕ) → Option BestPlan → Type 0
HasBest costs None = All (λ (cost : Option ℕ). cost ≡ None) costs
HasBest costs (Some best) = IsBest costs best

-- how many of the plans are valid, and the best of these
pub record Tallies (costs : List (Option ℕ)) (tally : Tally) : Type 0 where
  pub valid : tally.valid ≡ count_by is_some costs
  pub best : HasBest costs tally.best

-- ---- what is printed

-- `LABEL: ` and the output
abbrev pub labelled : List ℕ × Judged → List ℕ
labelled (label, judged) = label ++ codes ": " ++ judged.output.text

-- `, best cost C: LABEL`, where a plan is valid
abbrev pub best_words : List (List ℕ) → Option BestPlan → List ℕ
best_words labels None = []
best_words labels (Some best) =
    codes ", best cost " ++ decimal best.cost ++ codes ": " ++ slice_index_or labels best.number []

-- the last line, with its end: `N plans, V valid`, and then those words
abbrev pub summary_of : List (List ℕ) → Tally → List ℕ
summary_of labels tally =
    decimal (length labels) ++ codes " plans, " ++ decimal tally.valid ++ codes " valid"
    ++ best_words labels tally.best ++ codes "\n"

-- the answer about plans with these labels, by what is said of each, and their tally
abbrev pub plans_answer : List (List ℕ) → List Judged → Tally → Output
plans_answer labels all tally = record {
  text = flat_map labelled (zip labels all) ++ summary_of labels tally;
  status = if list_all is_some (costs_of all) then Yes else No;
}

-- the output about plans with these labels and the bytes cs for a layered task; there is none if a
-- plan is too long
abbrev pub PlansOut : (reasons : Bool) → Parts → List (List ℕ) → List (List ℕ) → Option Output
    → Type 0
PlansOut reasons p labels cs (Some output) = (all : List Judged)
    × AllZip (IsJudged reasons p) cs all
    × (tally : Tally) × Tallies (costs_of all) tally
    × (output ≡ plans_answer labels all tally)
PlansOut reasons p labels cs None = (c : List ℕ) × Contains cs c × PlanSaid reasons p c None

-- and for the bytes b of the task; only the plans of a layered task are judged, others are refused
abbrev pub JudgeOut : (reasons : Bool) → List (List ℕ) → List ℕ → List (List ℕ) → Option Output
    → Type 0
JudgeOut reasons labels b cs output =
    TaskBy reasons (UnlayeredBy reasons) b output
    ⊎ ((p : Parts) × ReadsAs task_format most_bytes b (Ok p) × IsLayered p
    × PlansOut reasons p labels cs output)

-- How a run ends that has such an output. Without reasons the number of bytes before a failed write
-- is exact, and with reasons where it is less than 2 ^ 64.
abbrev pub EndsPlans : (reasons : Bool) → (Option Output → Type 0) → (List ℕ → Type 0)
    → Result Status ToolFault → Type 0
EndsPlans true = EndsCounting
EndsPlans false = Ends

-- ---- laws

abbrev pub untraced : (reasons : Bool) → Detail
untraced reasons = record { reasons = reasons; trace = false }

-- of a layered task, what is printed of each plan is its label and the output of `plan` for it
abbrev pub EachIsThatOfPlan : Type 0
EachIsThatOfPlan = (reasons : Bool) (labels : List (List ℕ)) (b : List ℕ) (cs : List (List ℕ))
    → (o : Output) → IsLayeredText b → JudgeOut reasons labels b cs (Some o)
    → (outs : List Output) × AllZip (λ c out. OutBy (untraced reasons) Plan b c (Some out)) cs outs
    × (summary : List ℕ)
    × (o.text ≡ flat_map (λ (label, out). label ++ codes ": " ++ out.text) (zip labels outs)
    ++ summary)

-- a task that isn't layered, or no task, is refused as by `plan`, whatever the plan
abbrev pub RefusesAsPlan : Type 0
RefusesAsPlan = (reasons : Bool) (labels : List (List ℕ)) (b : List ℕ) (cs : List (List ℕ))
    → (o : Output) → (IsLayeredText b → ⊥) → JudgeOut reasons labels b cs (Some o)
    → (c : List ℕ) → OutBy (untraced reasons) Plan b c (Some o)

-- no label begins with two spaces, as a reason does, or ends a line
abbrev pub AreNoReasons : List (List ℕ) → Type 0
AreNoReasons = All (λ (label : List ℕ). IsLabel label × (is_reason label ≡ false))

-- then the output with reasons is the same answer as the one without
abbrev pub SamePlans : Type 0
SamePlans = (labels : List (List ℕ)) (b : List ℕ) (cs : List (List ℕ)) (why : Output)
    → AreNoReasons labels → JudgeOut true labels b cs (Some why)
    → (plain : Output) × JudgeOut false labels b cs (Some plain) × IsSameAnswer plain why

-- the task exceeds the limit, or a plan of a layered task does
abbrev pub IsOneLong : List ℕ → List (List ℕ) → Type 0
IsOneLong b cs = (most_bytes < length b)
    ⊎ (IsLayeredText b × ((c : List ℕ) × Contains cs c × (most_bytes < length c)))

-- the text but for its reasons, if it has some
abbrev pub unexplained : (reasons : Bool) → List ℕ → List ℕ
unexplained true text = without_reasons text
unexplained false text = text

-- What a run prints that judged the bytes cs, with these labels, as plans for the task b, and ended
-- with this status. `Sent` holds of the written bytes.
pub record PlansHeadline (reasons : Bool) (labels : List (List ℕ)) (b : List ℕ)
    (cs : List (List ℕ)) (Sent : List ℕ → Type 0) (status : Status) : Type 0 where
  -- line K, from 0, is `LABEL: plan valid: S steps, cost C` exactly if plan K solves it with S and
  -- C; reasons aren't counted, where no label looks like one
  pub line : (reasons ≡ true → AreNoReasons labels)
      → (number steps cost : ℕ) (out : List ℕ) → number < length labels → Sent out
      → (slice_index_or (lines (unexplained reasons out)) number [] ++ codes "\n"
      ≡ slice_index_or labels number [] ++ codes ": " ++ valid_line steps cost)
      ↔ Solves b (slice_index_or cs number []) (valid_line steps cost)
  -- and the answer is yes exactly if the task is layered and each of the plans solves it
  pub yes : (status ≡ Yes) ↔ (IsLayeredText b × ((number : ℕ) → number < length labels
      → (steps cost : ℕ) × Solves b (slice_index_or cs number []) (valid_line steps cost)))

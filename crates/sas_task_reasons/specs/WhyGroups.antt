-- Why mutex groups aren't shown to be exclusive: the lines after `group K ..`.
use Rattle.std.specs.Prelude.{◌≡◌, ℕ, ◌+◌, List, [], ◌∷◌, ◌++◌, map, Option, slice_index_or, ◌<◌, ◌==◌, ◌&&◌, Bool, true, false, not, is_some, length, None, Some, find, slice_index}
use Rattle.std.specs.Option.{option_map_or}
use Rattle.sas_core.specs.declared.parts.Fact.{Fact}
use Rattle.sas_core.specs.declared.parts.Parts.{Parts}
use Rattle.sas_core.specs.Grounded.{group_at}
use Rattle.sas_lines.specs.Lines.{text}
use Rattle.sas_groups.specs.declared.verdict.Verdict.{Verdict}
use Rattle.sas_groups.specs.Verdicts.{AreJointVerdicts, verdict_at}
use Rattle.sas_mutex.specs.declared.failures.Failure.{Failure}
use Rattle.sas_mutex.specs.declared.failures.Failure.TheVariants.{SetsTwo, MayStay}
use Rattle.sas_task_reasons.specs.declared.reason.Reason.{Reason}
use Rattle.sas_task_reasons.specs.declared.reason.Reason.TheVariants.{OnDerived, HoldsTwo, Breaks}
use Rattle.sas_answers.specs.Answers.{GroupsAnswer}
use Rattle.sas_answers.specs.Ending.{Output}
use Rattle.sas_answers.specs.GroupWords.{group_line, groups_status}
use Rattle.sas_answers.specs.declared.line.Line.{Line}
use Rattle.sas_answers.specs.declared.line.Line.TheVariants as line
use Rattle.sas_answers.specs.Line.{line_bytes}
use Rattle.sas_core.specs.Variables.{layer_of}
use Rattle.sas_groups.specs.declared.verdict.Verdict.TheVariants.{Exclusive, Derived, Initial, Broken}
use Rattle.sas_mutex.specs.Failures.{FailsFirst}

-- whether the fact holds in the state
abbrev pub holds : List ℕ → Fact → Bool
holds s fact = slice_index s fact.var == fact.value

-- the verdict for which this is a reason
abbrev pub verdict_of : Reason → Verdict
verdict_of (OnDerived fact) = Derived
verdict_of (HoldsTwo first second) = Initial
verdict_of (Breaks operator failure) = Broken operator

-- what the reason states holds of the group
abbrev pub TrueOfGroup : Parts → ℕ → Reason → Type 0
-- the first fact of the group on a derived variable
TrueOfGroup p place (OnDerived fact) =
    find (λ (f : Fact). is_some (layer_of p.variables f.var)) (group_at p place) ≡ Some fact
-- the first fact of the group that holds in the state section, and the first on another variable
TrueOfGroup p place (HoldsTwo first second) =
    (find (holds p.init) (group_at p place) ≡ Some first)
    × (find (λ f. holds p.init f && not (f.var == first.var)) (group_at p place) ≡ Some second)
-- the first failure of the operator, assuming the groups of the greatest family and the group
TrueOfGroup p place (Breaks operator failure) = FailsFirst p place operator failure

-- the reason for this verdict on the group with this index
pub record IsReason (p : Parts) (place : ℕ) (verdict : Verdict) (reason : Reason) : Type 0 where
  pub of : verdict ≡ verdict_of reason
  pub says : TrueOfGroup p place reason

-- the same, if there is a reason; a group without a reason has the verdict `Exclusive`
abbrev pub IsReasonIfAny : Parts → ℕ → Verdict → Option Reason → Type 0
IsReasonIfAny p place verdict None = verdict ≡ Exclusive
IsReasonIfAny p place verdict (Some reason) = IsReason p place verdict reason

-- the reason of the group with this index, if any
abbrev pub reason_at : List (Option Reason) → ℕ → Option Reason
reason_at reasons place = slice_index_or reasons place None

-- for each group of the task, in order, the reason for the verdict on it; none if it is exclusive
pub record AreReasons (p : Parts) (verdicts : List Verdict) (reasons : List (Option Reason))
    : Type 0 where
  pub one_each : length reasons ≡ length p.groups
  pub are : (place : ℕ) → place < length p.groups
      → IsReasonIfAny p place (verdict_at verdicts place) (reason_at reasons place)

-- the fact at this place of a list; after the last one, that variable 0 has value 0
abbrev pub fact_at : List Fact → ℕ → Fact
fact_at facts place = slice_index_or facts place (record { var = 0; value = 0 })

-- the effect of the operator, and what it clashes with: another effect, or a fact of the group
abbrev pub failure_lines : Parts → ℕ → ℕ → Failure → List Line
failure_lines p group operator (SetsTwo effect other) =
    line.EffectSets operator effect ∷ line.EffectSets operator other ∷ []
failure_lines p group operator (MayStay effect place) =
    line.EffectSets operator effect ∷ line.MayRemain (fact_at (group_at p group) place) ∷ []

-- the lines of the reason why the group at this place isn't shown to be exclusive
abbrev pub reason_lines : Parts → ℕ → Reason → List Line
reason_lines p group (OnDerived fact) = line.Derived fact ∷ []
reason_lines p group (HoldsTwo first second) = line.Holds first ∷ line.Holds second ∷ []
reason_lines p group (Breaks operator failure) =
    line.NamedOperator operator ∷ failure_lines p group operator failure

-- the verdict on the group at this place, and after it the reason, if there is one
abbrev pub explained_group_lines : Parts → ℕ → Verdict → Option Reason → List (List ℕ)
explained_group_lines p group verdict reason = group_line group verdict
    ∷ map (line_bytes p []) (option_map_or (reason_lines p group) reason [])

-- the lines of each group, the first of which has this place
abbrev pub why_lines_from : Parts → List (Option Reason) → ℕ → List Verdict → List (List ℕ)
why_lines_from p reasons group [] = []
why_lines_from p reasons group (verdict ∷ verdicts) =
    explained_group_lines p group verdict (reason_at reasons group)
    ++ why_lines_from p reasons (group + 1) verdicts

-- the lines of each group of a task
abbrev pub why_lines : Parts → List Verdict → List (Option Reason) → List (List ℕ)
why_lines p verdicts reasons = why_lines_from p reasons 0 verdicts

-- The answer about the mutex groups of a layered task: the joint verdict on each, and the reason
-- after it where the group isn't shown to be exclusive. It is yes if all are.
abbrev pub WhyGroupsAnswer : Parts → Output → Type 0
WhyGroupsAnswer p output = (verdicts : List Verdict)
    × (reasons : List (Option Reason))
    × AreJointVerdicts p verdicts
    × AreReasons p verdicts reasons
    × (output ≡ record {
      text = text (why_lines p verdicts reasons);
      status = groups_status verdicts;
    })

-- the answer about the groups of a layered task, with reasons or without
abbrev pub GroupsAnswerWith : Bool → Parts → Output → Type 0
GroupsAnswerWith true = WhyGroupsAnswer
GroupsAnswerWith false = GroupsAnswer

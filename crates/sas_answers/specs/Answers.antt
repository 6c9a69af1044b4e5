-- The answers about a task or a plan: a text, and whether it is yes or no.
use Rattle.std.specs.Prelude.{◌≡◌, ◌⊎◌, ℕ, List, length, codes, Option, Some, None, option_map}
use Rattle.sas_core.specs.declared.parts.Parts.{Parts}
use Rattle.sas_core.specs.FirstFault.{first_fault}
use Rattle.sas_core.specs.PlanParts.{PlanParts}
use Rattle.sas_meaning.specs.declared.layered.LayerFault.{LayerFault}
use Rattle.sas_meaning.specs.LayerChecks.{layer_checks}
use Rattle.sas_lines.specs.Lines.{text}
use Rattle.sas_groups.specs.declared.verdict.Verdict.{Verdict}
use Rattle.sas_groups.specs.Verdicts.{AreJointVerdicts}
use Rattle.sas_run.specs.declared.plan_check.PlanFault.{PlanFault}
use Rattle.sas_run.specs.Plans.{IsValid}
use Rattle.sas_run.specs.Verdicts.{IsFaultOf}
use Rattle.sas_answers.specs.declared.ending.Status.TheVariants.{Yes, No}
use Rattle.sas_answers.specs.Ending.{Output}
use Rattle.sas_answers.specs.GroupWords.{verdict_lines, groups_status}
use Rattle.sas_answers.specs.LayerWords.{layer_words, layers_line}
use Rattle.sas_answers.specs.PlanWords.{fault_words, invalid_line}
use Rattle.sas_answers.specs.ValidLine.{valid_line}

-- ---- the layers of a task

-- the refusal of a task for a fault of its layers; there is none for refused memory
abbrev pub layers_refusal : LayerFault → Option Output
layers_refusal fault =
    option_map (λ words. record { text = layers_line words; status = No }) (layer_words fault)

-- the answer about a task's layers, by their first fault if they have one
abbrev pub layers_verdict : Option LayerFault → Option Output
layers_verdict None = Some (record { text = codes "task layered\n"; status = Yes })
layers_verdict (Some fault) = layers_refusal fault

-- the answer to a check of a task is a line: that it is layered, or the refusal for the first fault
-- of its layers
abbrev pub CheckAnswer : Parts → Output → Type 0
CheckAnswer p output = layers_verdict (first_fault (layer_checks p)) ≡ Some output

-- ---- its mutex groups

-- the answer about the mutex groups of a task is a line for each, with the joint verdict on it
abbrev pub GroupsAnswer : Parts → Output → Type 0
GroupsAnswer p output = (verdicts : List Verdict)
    × AreJointVerdicts p verdicts
    × (output ≡ record { text = text (verdict_lines verdicts); status = groups_status verdicts })

-- this is the answer about a layered task; another task is refused for the first fault of its
-- layers
abbrev pub LayeredGroupsAnswer : Parts → Option LayerFault → Output → Type 0
LayeredGroupsAnswer p (Some fault) output = layers_refusal fault ≡ Some output
LayeredGroupsAnswer p None output = GroupsAnswer p output

abbrev pub MutexAnswer : Parts → Output → Type 0
MutexAnswer p output = LayeredGroupsAnswer p (first_fault (layer_checks p)) output

-- ---- whether a plan solves it

-- the answer about a valid plan with so many steps and this cost
abbrev pub valid_by : ℕ → ℕ → Output
valid_by steps cost = record { text = valid_line steps cost; status = Yes }

-- that a plan is valid
abbrev pub valid_answer : PlanParts → Output
valid_answer plan = valid_by (length plan.steps) plan.cost

-- the answer about a plan with this cost and this fault; there is none for refused memory
abbrev pub invalid_answer : ℕ → PlanFault → Option Output
invalid_answer cost fault =
    option_map (λ words. record { text = invalid_line words; status = No }) (fault_words cost fault)

-- the answer about a plan: that it is valid for the task, or else its fault
abbrev pub VerdictAnswer : Parts → PlanParts → Output → Type 0
VerdictAnswer p plan output =
    (((operators : List ℕ) × IsValid p plan operators) × (output ≡ valid_answer plan))
    ⊎ ((fault : PlanFault) × IsFaultOf p plan fault
    × (invalid_answer plan.cost fault ≡ Some output))

-- Why a task isn't layered, and the answers about a task with reasons.
use Rattle.std.specs.Prelude.{◌≡◌, ℕ, ◌==◌, ◌&&◌, not, List, [], ◌∷◌, ◌++◌, position, Option, Some, None, option_map}
use Rattle.std.specs.Option.{option_map_or}
use Rattle.sas_core.specs.declared.parts.Effect.{Effect}
use Rattle.sas_core.specs.declared.parts.Parts.{Parts}
use Rattle.sas_core.specs.FirstFault.{first_fault}
use Rattle.sas_core.specs.Grounded.{operator_at, effect_at, rule_at}
use Rattle.sas_core.specs.Variables.{layer_of}
use Rattle.sas_meaning.specs.declared.layered.LayerFault.{LayerFault}
use Rattle.sas_meaning.specs.declared.layered.LayerFault.TheVariants.{EffectOnDerived, RuleOnBasic, OldValue, TwoValues, LayerOrder, Memory}
use Rattle.sas_meaning.specs.LayerChecks.{layer_checks}
use Rattle.sas_meaning.specs.Layers.{default_of, can_fire}
use Rattle.sas_answers.specs.Ending.{Output}
use Rattle.sas_answers.specs.Answers.{layers_refusal, layers_verdict}
use Rattle.sas_answers.specs.declared.line.Line.{Line}
use Rattle.sas_answers.specs.declared.line.Line.TheVariants as line
use Rattle.sas_answers.specs.Line.{reasons_text}
use Rattle.sas_task_reasons.specs.WhyGroups.{fact_at, WhyGroupsAnswer}

-- ---- the lines

-- the layer of a variable, if it is derived
abbrev pub layer_lines : Parts → ℕ → List Line
layer_lines p var = option_map_or (λ layer. line.OnLayer layer ∷ []) (layer_of p.variables var) []

-- the lowest rule of the same variable that can fire and has another new value, if there is one
abbrev pub other_giver : Parts → Effect → Option ℕ
other_giver p rule = position (λ (other : Effect).
    (other.var == rule.var) && (can_fire p other && not (other.new == rule.new))) p.rules

-- The lines for a fault of a task's layers; refused memory is no fault of the task. Where the fault
-- is the first of a task's, each line is there that may be there.
abbrev pub layer_reasons : Parts → LayerFault → List Line
layer_reasons p (EffectOnDerived operator effect) =
    line.NamedOperator operator
    ∷ line.EffectSets operator effect
    ∷ layer_lines p (effect_at (operator_at p operator) effect).var
layer_reasons p (RuleOnBasic rule) = line.Rule rule ∷ []
layer_reasons p (OldValue rule) = let r = rule_at p rule in
    line.Rule rule
    ∷ (option_map_or (λ old. line.OldValue (record { var = r.var; value = old }) ∷ []) r.old []
    ++ line.DefaultValue (record { var = r.var; value = default_of p r.var }) ∷ [])
layer_reasons p (TwoValues rule) = line.Rule rule
    ∷ option_map_or (λ other. line.Rule other ∷ []) (other_giver p (rule_at p rule)) []
layer_reasons p (LayerOrder rule place) = let c = fact_at (rule_at p rule).conditions place in
    line.Rule rule
    ∷ (layer_lines p (rule_at p rule).var
    ++ line.ConditionRequires place c ∷ layer_lines p c.var)
layer_reasons p Memory = []

-- ---- the answers

-- an answer with the text of some reasons after it
abbrev pub with_reasons : List ℕ → Output → Output
with_reasons reasons plain = record { text = plain.text ++ reasons; status = plain.status }

-- the refusal of a task for a fault of its layers, and the reasons after it
abbrev pub why_refusal : Parts → LayerFault → Option Output
why_refusal p fault =
    option_map (with_reasons (reasons_text p [] (layer_reasons p fault))) (layers_refusal fault)

-- the answer about a task: with a fault of its layers the refusal and why, else such an answer
abbrev pub WhyAnswer : Parts → (Output → Type 0) → Option LayerFault → Output → Type 0
WhyAnswer p IsAnswer (Some fault) output = why_refusal p fault ≡ Some output
WhyAnswer p IsAnswer None output = IsAnswer output

-- the answer to a check of a task
abbrev pub WhyCheckAnswer : Parts → Output → Type 0
WhyCheckAnswer p =
    WhyAnswer p (λ output. layers_verdict None ≡ Some output) (first_fault (layer_checks p))

-- the answer about its mutex groups
abbrev pub WhyMutexAnswer : Parts → Output → Type 0
WhyMutexAnswer p = WhyAnswer p (WhyGroupsAnswer p) (first_fault (layer_checks p))

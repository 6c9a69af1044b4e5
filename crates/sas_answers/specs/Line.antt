-- The bytes of lines of reasons.
use Rattle.std.specs.Prelude.{ℕ, ◌-◌, ◌==◌, ◌&&◌, Bool, not, if◌then◌else◌, codes, decimal}
use Rattle.std.specs.Prelude.{List, [], ◌∷◌, length, map, bytes_eq, slice_index_or}
use Rattle.std.specs.Option.{unwrap_or}
use Rattle.sas_core.specs.declared.parts.Fact.{Fact}
use Rattle.sas_core.specs.declared.parts.Parts.{Parts}
use Rattle.sas_core.specs.Changes.{change_of, fact_of}
use Rattle.sas_core.specs.Grounded.{operator_at, effect_at, rule_at}
use Rattle.sas_core.specs.LineNumbers.{operator_line, rule_line}
use Rattle.sas_core.specs.Variables.{value_name}
use Rattle.sas_lines.specs.Lines.{text}
use Rattle.sas_answers.specs.Words.{line}
use Rattle.sas_answers.specs.declared.line.Line.{Line}
use Rattle.sas_answers.specs.declared.line.Line.TheVariants.{Step, SimilarOperator, Operator, NamedOperator, GoalFact, Requires}
use Rattle.sas_answers.specs.declared.line.Line.TheVariants.{Actual, SinceInitialState, SinceStep, RuleDerives, NoRuleDerives}
use Rattle.sas_answers.specs.declared.line.Line.TheVariants.{RuleRequires, ConflictingEffect, Metric, Steps, CostLines, CouldBe}
use Rattle.sas_answers.specs.declared.line.Line.TheVariants.{EffectSets, Rule, ConditionRequires, OldValue, DefaultValue, OnLayer}
use Rattle.sas_answers.specs.declared.line.Line.TheVariants.{Derived, Holds, MayRemain, NamelessSteps, FailingGoalFacts, UnitCostHint, CostLineHint}
use Rattle.sas_answers.specs.declared.line.Line.TheVariants.{OtherTaskHint, LaterFailures, LaterFailure, FailingGoalLater}
use Rattle.sas_answers.specs.Shown.{shown_name}

-- the words of a fact: `VAR VALUE NAME`; a value that doesn't exist has no name
abbrev pub words_of : Parts → Fact → List (List ℕ)
words_of p fact = decimal fact.var ∷ decimal fact.value
    ∷ shown_name (unwrap_or (value_name p.variables fact.var fact.value) []) ∷ []

-- a number, and a name
abbrev pub named_words : ℕ → List ℕ → List (List ℕ)
named_words number name = decimal number ∷ shown_name name ∷ []

-- the words of an operator: its number, the line at which it begins, and its name
abbrev pub operator_words : Parts → ℕ → List (List ℕ)
operator_words p operator =
    decimal operator ∷ codes "line" ∷ decimal (operator_line p operator) ∷ []

abbrev pub named_operator : Parts → ℕ → List (List ℕ)
named_operator p operator =
    decimal operator ∷ codes "line" ∷ decimal (operator_line p operator)
    ∷ shown_name (operator_at p operator).name ∷ []

-- the words of a rule: its number, the line at which it begins, and the fact that it derives
abbrev pub rule_words : Parts → ℕ → List (List ℕ)
rule_words p rule =
    decimal rule ∷ codes "line" ∷ decimal (rule_line p rule) ∷ codes "derives"
    ∷ words_of p (fact_of (change_of (rule_at p rule)))

-- a number, a verb and a fact
abbrev pub verb_words : Parts → ℕ → List ℕ → Fact → List (List ℕ)
verb_words p number verb fact = decimal number ∷ verb ∷ words_of p fact

-- the words of an effect: `effect E sets VAR VALUE NAME`
abbrev pub named_effect : Parts → ℕ → ℕ → List (List ℕ)
named_effect p operator effect = codes "effect" ∷ verb_words p effect (codes "sets")
    (fact_of (change_of (effect_at (operator_at p operator) effect)))

-- The bytes of a line of reasons about a task and a plan, without the line's end. The plan's steps
-- have these names; a line about the task alone names no step.
abbrev pub line_bytes : Parts → List (List ℕ) → Line → List ℕ
line_bytes p steps (Step step) =
    line 2 (codes "step" ∷ named_words step (slice_index_or steps (step - 1) []))
line_bytes p steps (SimilarOperator operator) =
    line 2 (codes "similar operator" ∷ named_operator p operator)
line_bytes p steps (Operator operator) = line 2 (codes "operator" ∷ operator_words p operator)
line_bytes p steps (NamedOperator operator) =
    line 2 (codes "operator" ∷ named_operator p operator)
line_bytes p steps (GoalFact index) = line 2 (codes "goal fact" ∷ decimal index ∷ [])
line_bytes p steps (Requires fact) = line 4 (codes "requires" ∷ words_of p fact)
line_bytes p steps (Actual fact) = line 4 (codes "actual" ∷ words_of p fact)
line_bytes p steps SinceInitialState = line 4 (codes "since the initial state" ∷ [])
line_bytes p steps (SinceStep step) =
    line 4 (codes "since step" ∷ named_words step (slice_index_or steps (step - 1) []))
line_bytes p steps (RuleDerives rule) = line 4
    (codes "rule" ∷ verb_words p rule (codes "derives") (fact_of (change_of (rule_at p rule))))
line_bytes p steps NoRuleDerives = line 4 (codes "no rule derives it" ∷ [])
line_bytes p steps (RuleRequires rule fact) =
    line 4 (codes "rule" ∷ verb_words p rule (codes "requires") fact)
line_bytes p steps (ConflictingEffect operator effect) = line 4 (named_effect p operator effect)
line_bytes p steps Metric =
    line 2 (codes "metric" ∷ decimal (if p.metric then 1 else 0) ∷ [])
line_bytes p steps (Steps count) = line 2 (codes "steps" ∷ decimal count ∷ [])
line_bytes p steps (CostLines sum) = line 2 (codes "sum of cost lines" ∷ decimal sum ∷ [])
line_bytes p steps (CouldBe step operator) = line 2
    (codes "step" ∷ decimal step ∷ codes "could also be operator" ∷ decimal operator ∷ [])
line_bytes p steps (EffectSets operator effect) = line 2 (named_effect p operator effect)
line_bytes p steps (Rule rule) = line 2 (codes "rule" ∷ rule_words p rule)
line_bytes p steps (ConditionRequires condition fact) =
    line 2 (codes "condition" ∷ verb_words p condition (codes "requires") fact)
line_bytes p steps (OldValue fact) = line 2 (codes "old value" ∷ words_of p fact)
line_bytes p steps (DefaultValue fact) = line 2 (codes "default value" ∷ words_of p fact)
line_bytes p steps (OnLayer layer) = line 2 (codes "on layer" ∷ decimal layer ∷ [])
line_bytes p steps (Derived fact) = line 2 (codes "derived" ∷ words_of p fact)
line_bytes p steps (Holds fact) = line 2 (codes "holds" ∷ words_of p fact)
line_bytes p steps (MayRemain fact) = line 2 (codes "may remain" ∷ words_of p fact)
line_bytes p steps (NamelessSteps count all) =
    line 2 (decimal count ∷ codes "of" ∷ decimal all ∷ codes "steps name no operator" ∷ [])
line_bytes p steps OtherTaskHint = line 2 (codes "hint the plan may be of another task" ∷ [])
line_bytes p steps (LaterFailures count all) = line 2 (codes "if made anyway" ∷ decimal count
    ∷ codes "of" ∷ decimal all ∷ codes "later steps fail" ∷ [])
line_bytes p steps (LaterFailure step) =
    line 4 (codes "step" ∷ named_words step (slice_index_or steps (step - 1) []))
line_bytes p steps (FailingGoalLater count all) = line 2 (codes "if made anyway" ∷ decimal count
    ∷ codes "of" ∷ decimal all ∷ codes "goal facts fail" ∷ [])
line_bytes p steps (FailingGoalFacts count all) =
    line 2 (decimal count ∷ codes "of" ∷ decimal all ∷ codes "goal facts fail" ∷ [])
line_bytes p steps UnitCostHint = line 2 (codes "hint with metric 0 each step costs 1" ∷ [])
line_bytes p steps CostLineHint =
    line 2 (codes "hint with metric 1 each step costs its operator's cost line" ∷ [])

-- the text of these lines, each ended by LF
abbrev pub reasons_text : Parts → List (List ℕ) → List Line → List ℕ
reasons_text p steps lines = text (map (line_bytes p steps) lines)

-- the numbers of a line of a rule, which no answer has twice; other lines have none
abbrev pub rule_numbers : Line → List ℕ
rule_numbers (RuleDerives rule) = rule ∷ []
rule_numbers (RuleRequires rule fact) = rule ∷ fact.var ∷ fact.value ∷ []
rule_numbers other = []

-- whether this is a line of a rule
abbrev pub is_rule_line : Line → Bool
is_rule_line line = not (length (rule_numbers line) == 0)

-- whether these are the same line of a rule
abbrev pub is_same_rule_line : Line → Line → Bool
is_same_rule_line line other =
    is_rule_line line && bytes_eq (rule_numbers line) (rule_numbers other)

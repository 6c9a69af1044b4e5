-- Lines of reasons in their parts.
use Rattle.std.specs.Prelude.{ℕ, ◌-◌, if◌then◌else◌, List, [], ◌∷◌, codes, decimal, slice_index_or, Option, Some, None}
use Rattle.std.specs.Borrow.{Bor}
use Rattle.sas_core.specs.declared.parts.Parts.{Parts}
use Rattle.sas_core.specs.PlanParts.{PlanParts}
use Rattle.sas_core.specs.Changes.{change_of, fact_of}
use Rattle.sas_core.specs.Grounded.{operator_at, effect_at, rule_at}
use Rattle.sas_answers.specs.Words.{line}
use Rattle.sas_answers.specs.declared.wording.Part.{Part}
use Rattle.sas_answers.specs.declared.wording.Part.TheVariants as part
use Rattle.sas_answers.specs.declared.wording.LineRest.{LineRest}
use Rattle.sas_answers.specs.declared.wording.LineRest.TheVariants as rest
use Rattle.sas_answers.specs.Line.{words_of, named_words, verb_words, operator_words, named_operator, rule_words}

-- the names of the plan's steps, if there is a plan
abbrev pub steps_of : Option (Bor PlanParts) → List (List ℕ)
steps_of None = []
steps_of (Some plan) = plan.now.steps

-- what a part of the task does with a fact
abbrev pub part_words : Parts → Part → List (List ℕ)
part_words p (part.Derives rule) =
    verb_words p rule (codes "derives") (fact_of (change_of (rule_at p rule)))
part_words p (part.Sets operator effect) = verb_words p effect (codes "sets")
    (fact_of (change_of (effect_at (operator_at p operator) effect)))
part_words p (part.Requires number fact) = verb_words p number (codes "requires") fact

-- the words that follow the first ones
abbrev pub rest_words : Parts → List (List ℕ) → LineRest → List (List ℕ)
rest_words p steps rest.Nothing = []
rest_words p steps (rest.Number number) = decimal number ∷ []
rest_words p steps (rest.Sum sum) = decimal sum ∷ []
rest_words p steps rest.Metric = decimal (if p.metric then 1 else 0) ∷ []
rest_words p steps (rest.Step step) = named_words step (slice_index_or steps (step - 1) [])
rest_words p steps (rest.OperatorLine operator) = operator_words p operator
rest_words p steps (rest.Operator operator) = named_operator p operator
rest_words p steps (rest.Rule rule) = rule_words p rule
rest_words p steps (rest.CouldBe step operator) =
    decimal step ∷ codes "could also be operator" ∷ decimal operator ∷ []
rest_words p steps (rest.OfFact fact) = words_of p fact
rest_words p steps (rest.OfPart its) = part_words p its
rest_words p steps (rest.KOfN count all what) =
    decimal count ∷ codes "of" ∷ decimal all ∷ what.now ∷ []

-- the line that begins so, and continues with these words
abbrev pub line_with : List ℕ → List (List ℕ) → List ℕ
line_with start words = line 0 (start ∷ words)

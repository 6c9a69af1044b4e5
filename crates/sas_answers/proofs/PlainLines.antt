-- Each line begins with two spaces, and holds neither LF nor CR.
use Rattle.sas_answers.proofs.Imports.{ℕ, ◌-◌, List, [], ◌∷◌, ◌++◌, get_or, refl, arith, if◌then◌else◌, codes, unwrap_or, Fact, Parts, operator_at, effect_at, rule_at, IsPlain, plain_without, plain-append, value_name, joined, Without-decimal, Line, Step, SimilarOperator, NamedOperator, GoalFact, Requires, Actual, SinceInitialState, SinceStep, RuleDerives, NoRuleDerives, RuleRequires, ConflictingEffect, Metric, Steps, CostLines, CouldBe, EffectSets, Rule, ConditionRequires, OldValue, DefaultValue, OnLayer, Derived, Holds, MayRemain, NamelessSteps, OtherTaskHint, LaterFailures, LaterFailure, FailingGoalLater, FailingGoalFacts, UnitCostHint, CostLineHint, change_of, fact_of, words_of, named_words, named_operator, rule_words, operator_line, rule_line, shown_name, named_effect, line_bytes, IsReasonLine}
use Rattle.sas_answers.proofs.ShownTexts.{shown_plain}
use Rattle.std.specs.Prelude.{decimal}
use Rattle.sas_answers.specs.declared.line.Line.TheVariants.{Operator as TheOperator}

pub number : (n : ℕ) → IsPlain (decimal n)
number n = plain_without (decimal n) (Without-decimal 10 n (omega arith)) (Without-decimal 13 n (omega arith))

pub number_then : (n : ℕ) (rest : List ℕ) → IsPlain rest → IsPlain (decimal n ++ rest)
number_then n rest h = plain-append (decimal n) rest (number n) h

-- ---- lines

pub two : (behind : List ℕ) → IsPlain behind → IsReasonLine (32 ∷ 32 ∷ behind)
two behind plain = record { behind = behind; spaces = refl; plain = plain }

named : (n : ℕ) (name : List ℕ) → IsPlain (joined (named_words n name))
named n name = number_then n (32 ∷ shown_name name) (shown_plain 256 name)

module _ (p : Parts) (steps : List (List ℕ)) where
  operator : (o : ℕ) → IsPlain (joined (named_operator p o))
  operator o =
      let name = shown_name (operator_at p o).name in
      let line = operator_line p o in
      number_then o (32 ∷ joined (codes "line" ∷ decimal line ∷ name ∷ [])) (number_then line (32 ∷ name) (shown_plain 256 (operator_at p o).name))

  of_fact : (f : Fact) → IsPlain (joined (words_of p f))
  of_fact f = let name = unwrap_or (value_name p.variables f.var f.value) [] in
      number_then f.var (32 ∷ decimal f.value ++ 32 ∷ shown_name name) (number_then f.value (32 ∷ shown_name name) (shown_plain 256 name))

  part : (n : ℕ) (verb : List ℕ) (f : Fact) → IsPlain verb → IsPlain (joined (decimal n ∷ verb ∷ words_of p f))
  part n verb f plain = number_then n (32 ∷ joined (verb ∷ words_of p f)) (plain-append verb (32 ∷ joined (words_of p f)) plain (of_fact f))

  effect : (o e : ℕ) → IsPlain (joined (named_effect p o e))
  effect o e = part e (codes "sets") (fact_of (change_of (effect_at (operator_at p o) e))) refl

  placed_rule : (r : ℕ) → IsPlain (joined (rule_words p r))
  placed_rule r =
      let f = fact_of (change_of (rule_at p r)) in
      let line = rule_line p r in
      number_then r (32 ∷ joined (codes "line" ∷ decimal line ∷ codes "derives" ∷ words_of p f)) (number_then line (32 ∷ joined (codes "derives" ∷ words_of p f)) (of_fact f))

  k_of_n : (k n : ℕ) (what : List ℕ) → IsPlain what → IsPlain (joined (decimal k ∷ codes "of" ∷ decimal n ∷ what ∷ []))
  k_of_n k n what plain = number_then k (32 ∷ codes "of" ++ 32 ∷ decimal n ++ 32 ∷ what) (number_then n (32 ∷ what) plain)

  pub is_reason_line : (l : Line) → IsReasonLine (line_bytes p steps l)
  is_reason_line (Step n) = two _ (named n (get_or steps (n - 1) []))
  is_reason_line (SimilarOperator n) = two _ (operator n)
  is_reason_line (TheOperator o) = two _ (number_then o (32 ∷ joined (codes "line" ∷ decimal (operator_line p o) ∷ [])) (number (operator_line p o)))
  is_reason_line (NamedOperator n) = two _ (operator n)
  is_reason_line (GoalFact n) = two _ (number n)
  is_reason_line (Requires f) = two _ (of_fact f)
  is_reason_line (Actual f) = two _ (of_fact f)
  is_reason_line SinceInitialState = two _ refl
  is_reason_line (SinceStep n) = two _ (named n (get_or steps (n - 1) []))
  is_reason_line (RuleDerives r) = two _ (part r (codes "derives") (fact_of (change_of (rule_at p r))) refl)
  is_reason_line NoRuleDerives = two _ refl
  is_reason_line (RuleRequires r f) = two _ (part r (codes "requires") f refl)
  is_reason_line (ConflictingEffect o e) = two _ (effect o e)
  is_reason_line Metric = two _ (number (if p.metric then 1 else 0))
  is_reason_line (Steps n) = two _ (number n)
  is_reason_line (CostLines n) = two _ (number n)
  is_reason_line (CouldBe n o) = two _ (number_then n (codes " could also be operator " ++ decimal o) (number o))
  is_reason_line (EffectSets o e) = two _ (effect o e)
  is_reason_line (Rule r) = two _ (placed_rule r)
  is_reason_line (ConditionRequires c f) = two _ (part c (codes "requires") f refl)
  is_reason_line (OldValue f) = two _ (of_fact f)
  is_reason_line (DefaultValue f) = two _ (of_fact f)
  is_reason_line (OnLayer n) = two _ (number n)
  is_reason_line (Derived f) = two _ (of_fact f)
  is_reason_line (Holds f) = two _ (of_fact f)
  is_reason_line (MayRemain f) = two _ (of_fact f)
  is_reason_line (NamelessSteps k n) = two _ (k_of_n k n (codes "steps name no operator") refl)
  is_reason_line OtherTaskHint = two _ refl
  is_reason_line (LaterFailures k n) = two _ (k_of_n k n (codes "later steps fail") refl)
  is_reason_line (LaterFailure n) = two _ (named n (get_or steps (n - 1) []))
  is_reason_line (FailingGoalLater k n) = two _ (k_of_n k n (codes "goal facts fail") refl)
  is_reason_line (FailingGoalFacts k n) = two _ (k_of_n k n (codes "goal facts fail") refl)
  is_reason_line UnitCostHint = two _ refl
  is_reason_line CostLineHint = two _ refl

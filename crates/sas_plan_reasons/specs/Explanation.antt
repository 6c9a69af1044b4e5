-- The lines that explain a run.
use Rattle.std.specs.Prelude.{◌≡◌, ℕ, ◌↔◌, Bool, true, false, IsTrue, List, [], map, flat_map, length, Contains, slice_index_or}
use Rattle.sas_core.specs.declared.parts.Fact.{Fact}
use Rattle.sas_core.specs.declared.parts.Parts.{Parts}
use Rattle.sas_core.specs.Grounded.{rule_at}
use Rattle.sas_core.specs.Variables.{IsState}
use Rattle.sas_meaning.specs.Settled.{IsSettled}
use Rattle.sas_meaning.specs.Places.{places, can_give}
use Rattle.sas_answers.specs.declared.line.Line.{Line}
use Rattle.sas_answers.specs.declared.line.Line.TheVariants.{RuleDerives, RuleRequires}
use Rattle.sas_axioms.specs.LayerRules.{AreRulesOf}
use Rattle.sas_plan_reasons.specs.Lines.{with_lines}
use Rattle.sas_run.specs.Runs.{Run, last_state, StepsSucceed}
use Rattle.sas_plan_reasons.specs.Cause.{failing_lines}
use Rattle.sas_plan_reasons.specs.Derivation.{IsDerivation}
use Rattle.sas_plan_reasons.specs.declared.history.PlanHistory.{PlanHistory}
use Rattle.sas_plan_reasons.specs.declared.causes.Explanation.{Explanation}
use Rattle.sas_plan_reasons.specs.Origins.{is_explained, AreOrigins}
use Rattle.sas_plan_reasons.specs.Retracing.{HaveSince}

-- the run's last state is noted, and since when its values hold
pub record IsBehind (p : Parts) (history : PlanHistory) (run : Run) : Type 0 where
  pub through : StepsSucceed p run
  pub last : history.last ≡ last_state run
  pub state : IsState p.variables history.last
  pub settled : IsSettled p history.last
  pub since : HaveSince p run history.since.items

-- a line for each rule of the variable that can fire, with its first condition that fails
abbrev pub lines_of_keepers : Parts → List ℕ → ℕ → List Line
lines_of_keepers p s var = flat_map (failing_lines p s) (places (can_give p var) p.rules)

-- whether these lines are noted as explained
abbrev pub is_kept : Explanation → ℕ → Bool
is_kept explanation var = slice_index_or explanation.kept var false

-- an explanation of this state, which notes the lines of rules that it has
pub record IsExplanation (p : Parts) (s : List ℕ) (explanation : Explanation) : Type 0 where
  pub origins : AreOrigins p s explanation.origins
  -- the rules that are noted so have a line
  pub derived : (rule : ℕ)
      → IsTrue (is_explained explanation.origins rule) ↔ Contains explanation.lines (RuleDerives rule)
  pub rules : AreRulesOf p explanation.rules
  pub one_each : length explanation.kept ≡ length p.variables
  -- a variable that is noted has all its lines, another one has none
  pub kept : (var : ℕ) → is_kept explanation var ≡ true → (line : Line)
      → Contains (lines_of_keepers p s var) line → Contains explanation.lines line
  pub not_kept : (rule : ℕ) (condition : Fact) → is_kept explanation (rule_at p rule).var ≡ false
      → Contains explanation.lines (RuleRequires rule condition) → ⊥

-- it is an explanation of the last state of a run
abbrev pub IsExplanationOf : Parts → PlanHistory → Explanation → Type 0
IsExplanationOf p history explanation = (run : Run) × IsBehind p history run × IsExplanation p history.last explanation

-- such lines of a run are added, each line of a rule once
abbrev pub AddsLines : Parts → PlanHistory → Explanation → Explanation → (Run → List Line → Type 0) → Type 0
AddsLines p history old new Are = (run : Run) → IsBehind p history run → IsExplanation p history.last old
    → (more : List Line)
    × Are run more
    × (new.lines ≡ with_lines old.lines more)
    × IsExplanation p history.last new

-- a line is added for each rule of the variable's derivation, if it isn't among the lines
pub record ExplainsGivers (p : Parts) (s : List ℕ) (var : ℕ) (old new : Explanation) : Type 0 where
  pub rules : List ℕ
  pub are : IsDerivation p s var rules
  pub added : new.lines ≡ with_lines old.lines (map RuleDerives rules)
  pub explanation : IsExplanation p s new

-- such lines, each line of a rule once
abbrev pub ExplainsOnce : List Line → (List Line → Type 0) → Type 0
ExplainsOnce lines Are = (reasons : List Line) × Are reasons × (lines ≡ with_lines [] reasons)

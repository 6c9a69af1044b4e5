-- The cause of a fact that doesn't hold in the last state of a run.
use Rattle.std.specs.Prelude.{◌≡◌, ◌≢◌, ℕ, zero, suc, ◌+◌, ◌<◌, ◌≤◌, ◌==◌, ◌&&◌, Bool, not, if◌then◌else◌}
use Rattle.std.specs.Prelude.{List, [], ◌∷◌, ◌++◌, map, flat_map, find, length, slice_index}
use Rattle.std.specs.List.{list_any}
use Rattle.std.specs.Option.{option_map_or}
use Rattle.sas_core.specs.declared.parts.Fact.{Fact}
use Rattle.sas_core.specs.declared.parts.Effect.{Effect}
use Rattle.sas_core.specs.declared.parts.Parts.{Parts}
use Rattle.sas_core.specs.Grounded.{rule_at}
use Rattle.sas_meaning.specs.Places.{places, can_give}
use Rattle.sas_answers.specs.declared.line.Line.{Line}
use Rattle.sas_answers.specs.declared.line.Line.TheVariants as line
use Rattle.sas_run.specs.Runs.{Run, state_at, last_state}
use Rattle.sas_plan_reasons.specs.Derivation.{needs_rules, IsDerivation}

-- whether the fact doesn't hold
abbrev pub fails : List ℕ → Fact → Bool
fails s fact = not (slice_index s fact.var == fact.value)

-- ---- since when the variable has its value

-- the variable's value in the state with this number
abbrev pub value_at : Run → ℕ → ℕ → ℕ
value_at run number var = slice_index (state_at run number) var

-- the last step that changed the variable's value, or 0 (the initial state) if none did; a step
-- that sets a variable to the value that it has already doesn't change it
pub record IsSince (run : Run) (var since : ℕ) : Type 0 where
  pub exists : since < length run.states
  pub changed : (before : ℕ) → since ≡ before + 1
      → value_at run before var ≢ value_at run since var
  pub unchanged : (later : ℕ) → since ≤ later → later + 1 < length run.states
      → value_at run later var ≡ value_at run (later + 1) var

-- the line with this step; 0 is the initial state
abbrev pub since_line : ℕ → Line
since_line zero = line.SinceInitialState
since_line (suc before) = line.SinceStep (suc before)

-- ---- the rules that give a derived variable its value

-- a line for each rule of the variable's derivation; none if it is basic or has its default
abbrev pub AreDerivationLines : Parts → List ℕ → ℕ → List Line → Type 0
AreDerivationLines p s var lines =
    (rules : List ℕ) × IsDerivation p s var rules × (lines ≡ map line.RuleDerives rules)

-- ---- the rules that don't derive the required value

-- a line for the first condition of the rule that doesn't hold
abbrev pub failing_lines : Parts → List ℕ → ℕ → List Line
failing_lines p s rule = option_map_or (λ condition. line.RuleRequires rule condition ∷ [])
    (find (fails s) (rule_at p rule).conditions) []

-- whether a rule of the fact's variable that can fire derives the fact's value
abbrev pub can_be_given : Parts → Fact → Bool
can_be_given p fact =
    list_any (λ (rule : Effect). can_give p fact.var rule && (rule.new == fact.value)) p.rules

-- for each rule of the variable that can fire its first failing condition; or `no rule derives it`
abbrev pub keeping_lines : Parts → List ℕ → Fact → List Line
keeping_lines p s fact = if can_be_given p fact
    then flat_map (failing_lines p s) (places (can_give p fact.var) p.rules)
    else line.NoRuleDerives ∷ []

-- these lines if the fact needs rules
abbrev pub missing_lines : Parts → List ℕ → Fact → List Line
missing_lines p s fact = if needs_rules p fact then keeping_lines p s fact else []

-- ---- the cause

-- the lines of the cause of a fact that doesn't hold in the last state of the run
pub record IsCause (p : Parts) (run : Run) (fact : Fact) (lines : List Line) : Type 0 where
  pub since : ℕ
  pub last_change : IsSince run fact.var since
  pub givers : List Line
  pub given : AreDerivationLines p (last_state run) fact.var givers
  pub whole : lines
      ≡ line.Requires fact
      ∷ line.Actual (record { var = fact.var; value = slice_index (last_state run) fact.var })
      ∷ since_line since
      ∷ givers
      ++ missing_lines p (last_state run) fact

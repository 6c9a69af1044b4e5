-- The derived variables of a task.
use Rattle.std.specs.Prelude.{◌≡◌, ℕ, ◌<◌, ◌≤◌, List, length, All, Contains, slice_index}
use Rattle.sas_core.specs.declared.parts.Parts.{Parts}
use Rattle.sas_core.specs.Variables.{IsDerived}
use Rattle.sas_meaning.specs.declared.state.VariableSpan.{VariableSpan}

-- the variable is in one of these spans
abbrev pub IsSpanned : List VariableSpan → ℕ → Type 0
IsSpanned spans var = (s : VariableSpan) × Contains spans s × (s.start ≤ var) × (var < s.end)

-- spans of the first n variables
abbrev pub AreSpansOf : ℕ → List VariableSpan → Type 0
AreSpansOf n spans = All (λ (s : VariableSpan). (s.start ≤ s.end) × (s.end ≤ n)) spans

-- the variables in these spans are the derived variables
pub record AreDerivedSpans (p : Parts) (spans : List VariableSpan) : Type 0 where
  pub fit : AreSpansOf (length p.variables) spans
  pub only : (var : ℕ) → IsSpanned spans var → IsDerived p.variables var
  pub each : (var : ℕ) → IsDerived p.variables var → IsSpanned spans var

-- the variables in these spans have their values in `other`, and all others are as in s
pub record CopiesSpans (spans : List VariableSpan) (other s s' : List ℕ) : Type 0 where
  pub one_each : length s' ≡ length s
  pub inside : (var : ℕ) → IsSpanned spans var → slice_index s' var ≡ slice_index other var
  pub outside : (var : ℕ) → (IsSpanned spans var → ⊥) → slice_index s' var ≡ slice_index s var

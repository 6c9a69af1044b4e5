-- How an operator fails to keep a group of facts. The predicate `Counts` selects the groups
-- that are assumed to be exclusive: facts that clash under this assumption don't hold together.
use Rattle.std.specs.Prelude.{◌≡◌, ◌≢◌, ◌⊎◌, ℕ, ◌<◌, ◌≤◌, Bool, List, [], ◌∷◌, ◌++◌, length, Option, None, Some, IsSomeAnd, Contains, slice_get, slice_index_or}
use Rattle.sas_core.specs.declared.parts.Fact.{Fact}
use Rattle.sas_core.specs.declared.parts.Effect.{Effect}
use Rattle.sas_core.specs.declared.parts.Operator.{Operator}
use Rattle.sas_core.specs.declared.parts.Parts.{Parts}
use Rattle.sas_core.specs.Grounded.{operator_at, effect_at, group_at}
use Rattle.sas_meaning.specs.Steps.{preconditions}
use Rattle.sas_groups.specs.Clashes.{Clash, IsRemoved, sets}
use Rattle.sas_groups.specs.Families.{IsGreatest, IsGroupOfOr}
use Rattle.sas_groups.specs.Verdicts.{verdict_at}
use Rattle.sas_groups.specs.declared.verdict.Verdict.{Verdict}
use Rattle.sas_groups.specs.declared.verdict.Verdict.TheVariants.{Broken}
use Rattle.sas_mutex.specs.declared.failures.Failure.{Failure}
use Rattle.sas_mutex.specs.declared.failures.Failure.TheVariants.{SetsTwo, MayStay}

-- both effects set facts of the group, on different variables, and may fire together: the facts
-- that hold then don't clash
pub record SetTwo (Counts : List Fact → Type 0) (o : Operator) (group : List Fact) (e f : Effect)
    : Type 0 where
  pub sets_one : Contains group (sets e)
  pub sets_other : Contains group (sets f)
  pub differ : e.var ≢ f.var
  pub no_clash : Clash Counts (preconditions o ++ e.conditions ++ f.conditions) → ⊥

-- the effect sets a fact of the group, while this other fact, on another variable, may have held
-- before and isn't removed
pub record LetsStay (Counts : List Fact → Type 0) (o : Operator) (group : List Fact) (e : Effect)
    (other : Fact) : Type 0 where
  pub sets_one : Contains group (sets e)
  pub differ : e.var ≢ other.var
  pub no_clash : Clash Counts (preconditions o ++ e.conditions ++ other ∷ []) → ⊥
  pub stays : IsRemoved o (preconditions o ++ e.conditions ++ other ∷ []) other → ⊥

-- the operator fails to keep the group in this way
abbrev pub IsFailure : (List Fact → Type 0) → Operator → List Fact → Failure → Type 0
IsFailure Counts o group (SetsTwo effect other) = (effect < length o.effects)
    × (other < length o.effects)
    × SetTwo Counts o group (effect_at o effect) (effect_at o other)
IsFailure Counts o group (MayStay effect place) = (effect < length o.effects)
    × (fact : Fact)
    × (slice_get group place ≡ Some fact)
    × LetsStay Counts o group (effect_at o effect) fact

-- the order of failures: those of lower effects come first; of one effect, those with another
-- effect, by its index; then those with a fact, by its index in the group
abbrev pub IsEarlier : Failure → Failure → Type 0
IsEarlier (SetsTwo effect other) (SetsTwo effect' other') = (effect < effect')
    ⊎ ((effect ≡ effect') × (other < other'))
IsEarlier (SetsTwo effect other) (MayStay effect' place') = effect ≤ effect'
IsEarlier (MayStay effect place) (SetsTwo effect' other') = effect < effect'
IsEarlier (MayStay effect place) (MayStay effect' place') = (effect < effect')
    ⊎ ((effect ≡ effect') × (place < place'))

-- the first failure of the operator
pub record IsFirstFailure (Counts : List Fact → Type 0) (o : Operator) (group : List Fact)
    (failure : Failure) : Type 0 where
  pub fails : IsFailure Counts o group failure
  pub first : (other : Failure) → IsEarlier other failure → IsFailure Counts o group other → ⊥

-- the first failure of the operator to keep the group with this index, assuming the groups of
-- the greatest family and the group itself
abbrev pub FailsFirst : Parts → ℕ → ℕ → Failure → Type 0
FailsFirst p place operator failure = (family : ℕ → Bool)
    × IsGreatest p family
    × IsFirstFailure (IsGroupOfOr p family (group_at p place)) (operator_at p operator)
    (group_at p place) failure

-- the failure that is noted for the group with this index, if any
abbrev pub failure_at : List (Option Failure) → ℕ → Option Failure
failure_at failures place = slice_index_or failures place None

-- of each group in the list that an operator breaks by these verdicts, the first failure is noted
abbrev pub AreFailures : Parts → List Verdict → List (Option Failure) → Type 0
AreFailures p verdicts failures = (place operator : ℕ) → place < length failures
    → verdict_at verdicts place ≡ Broken operator
    → IsSomeAnd (failure_at failures place) (FailsFirst p place operator)

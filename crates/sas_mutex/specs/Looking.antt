-- Looking at effects: which groups they keep, while others are removed.
use Rattle.std.specs.Prelude.{◌≡◌, ◌⊎◌, ℕ, ◌<◌, Bool, IsTrue, List, [], length, Contains}
use Rattle.sas_core.specs.declared.parts.Parts.{Parts}
use Rattle.sas_core.specs.Grounded.{operator_at, effect_at, group_at}
use Rattle.sas_groups.specs.Clashes.{sets}
use Rattle.sas_groups.specs.Families.{IsIn}
use Rattle.sas_mutex.specs.Kept.{family_of}
use Rattle.sas_mutex.specs.declared.family.Family.{Family}
use Rattle.sas_mutex.specs.declared.looking.Keeping.{Keeping}
use Rattle.sas_mutex.specs.Basis.{IsPartOf}
use Rattle.sas_mutex.specs.ByNotes.{IsNotedAt}
use Rattle.sas_mutex.specs.Effects.{KeepsAt, KeepsWithItself, IsUnconditional, EffectPlace}
use Rattle.sas_mutex.specs.Falling.{FamilyHasRoom, Falls, newly}
use Rattle.sas_mutex.specs.Recorded.{IsClean}

-- between two looks: room for all groups that may be removed, and nothing is recorded
pub record IsIdle (p : Parts) (keeping : Keeping) : Type 0 where
  pub room : FamilyHasRoom p keeping.family
  pub clean : IsClean p keeping.recorded

-- while the effect is looked at: the same room, and its known facts are recorded and don't clash
pub record IsAtEffect (f : EffectPlace) (keeping : Keeping) : Type 0 where
  pub room : FamilyHasRoom f.task keeping.family
  pub notes : IsNotedAt f keeping.family.kept keeping.recorded

-- the property holds for each of these pairs of an effect of the operator and a group of the family
-- that contains the fact that the effect sets
abbrev pub ForPairs : Parts → ℕ → List Bool → (ℕ → ℕ → Type 0) → (ℕ → ℕ → Type 0) → Type 0
ForPairs p operator kept Pairs Property = (effect place : ℕ) → Pairs effect place
    → IsIn p (family_of kept) place
    → Contains (group_at p place) (sets (effect_at (operator_at p operator) effect))
    → Property effect place

-- These pairs were looked at. Groups were removed from the family, and the basis has grown. If no
-- group was removed, each effect keeps the group of its pair. If `alone`, each does so assuming
-- only the basis and the group itself.
pub record Looked (p : Parts) (operator : ℕ) (Pairs : ℕ → ℕ → Type 0) (before after : Family)
    (alone : Bool) : Type 0 where
  pub falls : Falls p before after
  pub grows : IsPartOf before.basis after.basis
  pub keeps : newly before after ≡ []
      → ForPairs p operator after.kept Pairs (KeepsAt p after.kept operator)
  pub by_basis : IsTrue alone
      → ForPairs p operator after.kept Pairs (KeepsWithItself p after.basis operator)

-- ---- pairs

-- the effect and the group
abbrev pub IsPair : ℕ → ℕ → ℕ → ℕ → Type 0
IsPair of at effect place = (effect ≡ of) × (place ≡ at)

-- the effect and any group
abbrev pub IsOfEffect : ℕ → ℕ → ℕ → Type 0
IsOfEffect of effect place = effect ≡ of

-- an effect of the operator and any group
abbrev pub IsOfOperator : Parts → ℕ → ℕ → ℕ → Type 0
IsOfOperator p operator effect place = effect < length (operator_at p operator).effects

-- an effect of the operator without conditions and any group
abbrev pub IsOfUnconditional : Parts → ℕ → ℕ → ℕ → Type 0
IsOfUnconditional p operator effect place =
    IsOfOperator p operator effect place × IsUnconditional p operator effect

-- the effect and any group; or, if the effect has no conditions, any such effect of its operator
abbrev pub IsOfAlike : EffectPlace → ℕ → ℕ → Type 0
IsOfAlike f effect place = IsOfEffect f.effect effect place
    ⊎ (IsUnconditional f.task f.operator f.effect
    × IsOfUnconditional f.task f.operator effect place)

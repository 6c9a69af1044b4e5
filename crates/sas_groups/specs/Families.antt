-- Families of groups of a task that are kept jointly. A family is a predicate on the indexes
-- of groups.
use Rattle.std.specs.Prelude.{◌≡◌, ◌⊎◌, ℕ, ◌<◌, Bool, IsTrue, List, length, All}
use Rattle.sas_core.specs.declared.parts.Fact.{Fact}
use Rattle.sas_core.specs.declared.parts.Operator.{Operator}
use Rattle.sas_core.specs.declared.parts.Parts.{Parts}
use Rattle.sas_core.specs.Grounded.{group_at}
use Rattle.sas_groups.specs.Clashes.{Keeps}
use Rattle.sas_meaning.specs.Layers.{IsBasic}
use Rattle.sas_groups.specs.Groups.{IsExclusiveIn}

-- all facts of the group are on basic variables
abbrev pub IsOnBasic : Parts → List Fact → Type 0
IsOnBasic p group = All (λ (f : Fact). IsBasic p f.var) group

-- the group may be exclusive: its facts are on basic variables, and no two different ones hold in
-- the state section
pub record MayBeExclusive (p : Parts) (group : List Fact) : Type 0 where
  pub basic : IsOnBasic p group
  pub initial : IsExclusiveIn p.init group

-- the group with this index exists and is in the family
pub record IsIn (p : Parts) (family : ℕ → Bool) (place : ℕ) : Type 0 where
  pub exists : place < length p.groups
  pub chosen : IsTrue (family place)

-- the group is in the family
abbrev pub IsGroupOf : Parts → (ℕ → Bool) → List Fact → Type 0
IsGroupOf p family group = (place : ℕ) × IsIn p family place × (group ≡ group_at p place)

-- every operator keeps the group, given the assumed groups
abbrev pub AllKeep : Parts → (List Fact → Type 0) → List Fact → Type 0
AllKeep p Counts group = All (λ (o : Operator). Keeps Counts o group) p.operators

-- a family is kept jointly if each of its groups may be exclusive and every operator keeps
-- each of its groups, assuming the groups of the family
pub record IsKeptJointly (p : Parts) (family : ℕ → Bool) : Type 0 where
  pub may : (place : ℕ) → IsIn p family place → MayBeExclusive p (group_at p place)
  pub kept : (place : ℕ) → IsIn p family place → AllKeep p (IsGroupOf p family) (group_at p place)

-- the greatest such family contains the groups of every other one
pub record IsGreatest (p : Parts) (family : ℕ → Bool) : Type 0 where
  pub jointly : IsKeptJointly p family
  pub greatest : (other : ℕ → Bool) → IsKeptJointly p other
      → (place : ℕ) → IsIn p other place → IsIn p family place

-- a group of the family, or this group
abbrev pub IsGroupOfOr : Parts → (ℕ → Bool) → List Fact → List Fact → Type 0
IsGroupOfOr p family itself group = IsGroupOf p family group ⊎ (group ≡ itself)

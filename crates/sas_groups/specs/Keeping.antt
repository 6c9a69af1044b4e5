-- When an effect keeps a group, in parts. The predicate `Counts` selects the groups that are
-- assumed to be exclusive before a step.
use Rattle.std.specs.Prelude.{◌≡◌, ◌≢◌, ◌⊎◌, ℕ, ◌<◌, length, List, [], ◌∷◌, Contains}
use Rattle.sas_core.specs.declared.parts.Fact.{Fact}
use Rattle.sas_core.specs.declared.parts.Effect.{Effect}
use Rattle.sas_core.specs.declared.parts.Operator.{Operator}
use Rattle.sas_core.specs.declared.parts.Parts.{Parts}
use Rattle.sas_core.specs.Grounded.{effect_at}
use Rattle.sas_groups.specs.declared.verdict.Verdict.{Verdict}
use Rattle.sas_groups.specs.declared.verdict.Verdict.TheVariants.{Exclusive, Derived, Initial, Broken}
use Rattle.sas_groups.specs.Clashes.{Clash, IsRemoved, sets}
use Rattle.sas_groups.specs.Groups.{IsExclusiveIn}
use Rattle.sas_groups.specs.Families.{IsOnBasic, MayBeExclusive}
use Rattle.sas_groups.specs.Lists.{known}

-- only this group is assumed
abbrev pub Alone : List Fact → List Fact → Type 0
Alone group = λ (g : List Fact). g ≡ group

-- if the second effect sets a fact of the group on another variable than the first, the two effects
-- can't fire together: their conditions and the preconditions clash
abbrev pub NotBoth : (List Fact → Type 0) → Operator → List Fact → Effect → Effect → Type 0
NotBoth Counts o group e f = Contains group (sets f) → e.var ≢ f.var
    → Clash Counts (known o e.conditions f.conditions)

-- if this fact is on another variable than the effect, it can't have held before, or it is removed
abbrev pub IsGone : (List Fact → Type 0) → Operator → Effect → Fact → Type 0
IsGone Counts o e f = e.var ≢ f.var
    → Clash Counts (known o e.conditions (f ∷ [])) ⊎ IsRemoved o (known o e.conditions (f ∷ [])) f

-- no effect that may fire together with this one sets another fact of the group on another variable
abbrev pub HasNoPartner : (List Fact → Type 0) → Operator → List Fact → Effect → Type 0
HasNoPartner Counts o group e = (other : ℕ) → other < length o.effects
    → NotBoth Counts o group e (effect_at o other)

-- no other fact of the group remains when the effect fires
abbrev pub AreGone : (List Fact → Type 0) → Operator → List Fact → Effect → Type 0
AreGone Counts o group e = (f : Fact) → Contains group f → IsGone Counts o e f

-- an effect that sets a fact of the group keeps the group: no other effect sets another one in
-- the same step, and no other fact of the group remains, unless the facts that hold then clash
pub record EffectKeeps (Counts : List Fact → Type 0) (o : Operator) (group : List Fact) (e : Effect)
    : Type 0 where
  pub single : HasNoPartner Counts o group e
  pub others : AreGone Counts o group e

-- the effect keeps the group, or sets no fact of it
abbrev pub KeepsIfSets : (List Fact → Type 0) → Operator → List Fact → Effect → Type 0
KeepsIfSets Counts o group e = Contains group (sets e) → EffectKeeps Counts o group e

-- the verdict on a group before operators are looked at; `Exclusive` means that the group may be
-- exclusive
abbrev pub IsFirstVerdict : Parts → List Fact → Verdict → Type 0
IsFirstVerdict p group Derived = IsOnBasic p group → ⊥
IsFirstVerdict p group Initial = IsOnBasic p group × (IsExclusiveIn p.init group → ⊥)
IsFirstVerdict p group (Broken operator) = ⊥
IsFirstVerdict p group Exclusive = MayBeExclusive p group

-- What two of the verdicts on a group say about states.
use Rattle.std.specs.Prelude.{ℕ, List}
use Rattle.sas_core.specs.declared.parts.Fact.{Fact}
use Rattle.sas_core.specs.declared.parts.Parts.{Parts}
use Rattle.sas_core.specs.Grounded.{group_at}
use Rattle.sas_core.specs.WellRanged.{WellRanged}
use Rattle.sas_meaning.specs.Layers.{IsLayered}
use Rattle.sas_meaning.specs.FastDownward.{FastDownwardReachable, AlwaysAgree}
use Rattle.sas_groups.specs.declared.verdict.Verdict.TheVariants.{Exclusive, Initial}
use Rattle.sas_groups.specs.Groups.{IsExclusiveIn, IsInvariant}
use Rattle.sas_groups.specs.Verdicts.{IsJointVerdict}

-- a group with the verdict `Initial` isn't an invariant
abbrev pub InitialIsNoInvariant : Type 0
InitialIsNoInvariant = (p : Parts) (place : ℕ) → WellRanged p → IsLayered p
    → IsJointVerdict p place Initial → IsInvariant p (group_at p place) → ⊥

-- if the effects that fire in reachable states agree, an invariant is one of Fast Downward, too: no
-- state that its search can reach contains two different facts of it
abbrev pub InvariantInFastDownward : Type 0
InvariantInFastDownward = (p : Parts) (group : List Fact) (s : List ℕ) → IsLayered p
    → AlwaysAgree p → IsInvariant p group → FastDownwardReachable p s → IsExclusiveIn s group

-- so is a group with the verdict `Exclusive`
abbrev pub ExclusiveInFastDownward : Type 0
ExclusiveInFastDownward = (p : Parts) (place : ℕ) (s : List ℕ) → IsLayered p → AlwaysAgree p
    → IsJointVerdict p place Exclusive → FastDownwardReachable p s
    → IsExclusiveIn s (group_at p place)

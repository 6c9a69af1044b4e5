-- When a state contains at most one fact of a group, and which groups are invariants of a task.
use Rattle.std.specs.Prelude.{◌≡◌, List, ℕ, Contains, slice_index}
use Rattle.sas_core.specs.declared.parts.Fact.{Fact}
use Rattle.sas_core.specs.declared.parts.Parts.{Parts}
use Rattle.sas_meaning.specs.States.{Holds}
use Rattle.sas_meaning.specs.Reachable.{Reachable}

-- no two different facts of the group hold in the state; a fact that occurs more than once in the
-- group is one fact
abbrev pub IsExclusiveIn : List ℕ → List Fact → Type 0
IsExclusiveIn s group = (f g : Fact) → Contains group f → Contains group g
    → Holds (slice_index s) f → Holds (slice_index s) g → f ≡ g

-- a group is an invariant of the task if no reachable state contains two different facts of it
abbrev pub IsInvariant : Parts → List Fact → Type 0
IsInvariant p group = (s : List ℕ) → Reachable p s → IsExclusiveIn s group

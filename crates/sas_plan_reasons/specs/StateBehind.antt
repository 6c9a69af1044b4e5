-- The state behind the operators of a plan by numbers.
use Rattle.std.specs.Prelude.{ℕ, Bool, List, Option, Some, None}
use Rattle.sas_core.specs.declared.parts.Parts.{Parts}
use Rattle.sas_run.specs.declared.starts.StartFault.{StartFault}
use Rattle.sas_run.specs.NumberFaults.{LeadsAsFar}
use Rattle.sas_run.specs.Starts.{IsStart, IsStartFault, start_of}

-- the state to which the operators lead from the start that is given, up to the first that fails,
-- and whether none does; there is none if the start isn't a state
abbrev pub IsStateBehind : Parts → List ℕ → List ℕ → Option (List ℕ × Bool) → Type 0
IsStateBehind p start operators None = (fault : StartFault) × IsStartFault p start fault
IsStateBehind p start operators (Some found) =
    IsStart p start × LeadsAsFar p (start_of p start) operators found.0 found.1

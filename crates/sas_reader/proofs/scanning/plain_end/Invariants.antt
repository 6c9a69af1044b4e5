use Rattle.sas_reader.proofs.Imports.{ℕ, ◌-◌, ◌<◌, ◌≤◌, length, get_or}
use Rattle.sas_reader.proofs.scanning.plain_end.Given as goal

abbrev pub invariant-loop-at : goal.invariant-loop-at
invariant-loop-at l = (l.at ≤ length l.bytes) × ((k : ℕ) → k < l.at → 13 < get_or l.bytes k 0)

abbrev pub decreases-loop-at : goal.decreases-loop-at
decreases-loop-at l = length l.bytes - l.at

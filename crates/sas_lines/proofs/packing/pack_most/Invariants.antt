use Rattle.sas_lines.proofs.Imports.{length, ◌+◌, ◌-◌, ◌<◌, ◌≤◌, Packs}
use Rattle.sas_lines.proofs.packing.pack_most.Given as goal

abbrev pub invariant-loop-at : goal.invariant-loop-at
invariant-loop-at l = record {
  packs : Packs l.initial.text l.fn.start l.text l.at;
  gap : l.at.read < length l.text → l.at.kept + 16 ≤ l.at.read;
}

abbrev pub decreases-loop-at : goal.decreases-loop-at
decreases-loop-at l = length l.text - l.at.read

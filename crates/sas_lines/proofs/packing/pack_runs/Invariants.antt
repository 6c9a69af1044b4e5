use Rattle.sas_lines.proofs.Imports.{length, ◌-◌, Packs}
use Rattle.sas_lines.proofs.packing.pack_runs.Given as goal

abbrev pub invariant-loop-at : goal.invariant-loop-at
invariant-loop-at l = Packs l.initial.text l.fn.start l.text l.at

abbrev pub decreases-loop-at : goal.decreases-loop-at
decreases-loop-at l = length l.text - l.at.read

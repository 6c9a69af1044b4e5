use Rattle.sas_reader.proofs.Imports.{length, ◌-◌, Ok, TakesFrontOrStops}
use Rattle.sas_reader.proofs.reader.Reader.take_all.Given as goal

-- `at` bytes were taken
abbrev pub invariant-loop-at : goal.invariant-loop-at
invariant-loop-at g l = TakesFrontOrStops g.M.Machine.behavior l.initial.self l.piece l.self (Ok l.at)

abbrev pub decreases-loop-at : goal.decreases-loop-at
decreases-loop-at g l = length l.piece - l.at

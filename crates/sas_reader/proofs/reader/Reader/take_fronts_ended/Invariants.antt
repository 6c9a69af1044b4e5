use Rattle.sas_reader.proofs.Imports.{length, ◌-◌, ◌≡◌, ◌≤◌, ◌+◌, [], Ok, TakesFrontOrStops}
use Rattle.sas_reader.proofs.reader.Reader.take_fronts_ended.Given as goal

-- `at` bytes were taken, and nothing is pending
abbrev pub invariant-loop-at : goal.invariant-loop-at
invariant-loop-at g l =
    record {
      took : TakesFrontOrStops g.M.Machine.behavior l.initial.self l.within l.self (Ok l.at);
      room : l.initial.self.taken + length l.within ≤ l.initial.self.limit;
      whole : l.self.pending.pending ≡ [];
    }

abbrev pub decreases-loop-at : goal.decreases-loop-at
decreases-loop-at g l = length l.within - l.at

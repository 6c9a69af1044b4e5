use Rattle.sas_reader.proofs.Imports.{◌≡◌, ◌-◌, ◌<◌, ℕ, List, length, None, false, Consumes, Stands}
use Rattle.sas_reader.proofs.devices.feed_all.Given as goal

-- the reader represents the bytes that were read
abbrev pub invariant-loop-n : goal.invariant-loop-n
invariant-loop-n g l =
    record {
      note : l.device.failed ≡ false;
      fault : l.reader.fault ≡ None;
      limit : l.reader.limit ≡ l.fn.reader.limit;
      read : (b : List ℕ) × Consumes (g.R.Read.remaining l.initial.device.device) (g.R.Read.remaining l.device.device) b × Stands g.M.Machine.behavior l.reader b;
    }

abbrev pub decreases-loop-n : goal.decreases-loop-n
decreases-loop-n g l = l.reader.limit - l.reader.taken

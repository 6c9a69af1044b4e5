use Rattle.sas_lines.proofs.Imports.{length, ◌-◌, ◌≡◌, ◌≤◌, [], take, false, Appends}
use Rattle.sas_lines.proofs.devices.write_lines.Given as goal

-- the first `written` bytes went out, and no write has failed
abbrev pub invariant-loop-written : goal.invariant-loop-written
invariant-loop-written g l = record {
  within : l.written ≤ length l.bytes;
  note : l.out.failed ≡ false;
  sent : Appends (g.W.Write.contents l.initial.out.device) (g.W.Write.contents l.out.device) (take l.written l.bytes);
  untouched : l.bytes ≡ [] → l.out ≡ l.initial.out;
}

abbrev pub decreases-loop-written : goal.decreases-loop-written
decreases-loop-written g l = length l.bytes - l.written

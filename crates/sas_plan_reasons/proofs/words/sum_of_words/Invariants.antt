-- The sum is that of the bytes so far.
use Rattle.std.proofs.Common.{◌≡◌, ◌*◌, ◌≤◌, sum_by, take}
use Rattle.sas_plan_reasons.proofs.NameWords.{adds}
use Rattle.sas_plan_reasons.proofs.words.sum_of_words.Given as goal

abbrev pub invariant-loop-byte : goal.invariant-loop-byte
invariant-loop-byte l = record {
  sum : l.sum ≡ sum_by adds (take l.byte-index l.name);
  few : l.sum ≤ l.byte-index * 255;
}

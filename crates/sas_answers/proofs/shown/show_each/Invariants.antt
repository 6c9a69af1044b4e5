use Rattle.sas_answers.proofs.Imports.{◌≡◌, ◌≤◌, ◌*◌, take, length, flat_map, Places, shown_byte}
use Rattle.sas_answers.proofs.shown.show_each.Given as goal

-- the bytes so far were placed as they are shown
abbrev pub invariant-loop-byte : goal.invariant-loop-byte
invariant-loop-byte l = record {
  length : length l.room ≡ length l.fn.room;
  places : Places l.fn.room l.room 0 (flat_map shown_byte (take l.byte-index l.bytes)) l.end;
  short : l.end ≤ 4 * l.byte-index;
}

use Rattle.sas_answers.proofs.Imports.{◌≡◌, take, list_all, is_plain_byte}
use Rattle.sas_answers.proofs.shown.are_plain.Given as goal

abbrev pub invariant-loop-byte : goal.invariant-loop-byte
invariant-loop-byte l = record { so_far : l.all ≡ list_all is_plain_byte (take l.byte-index l.bytes) }

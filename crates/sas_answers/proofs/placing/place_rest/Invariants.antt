use Rattle.sas_answers.proofs.Imports.{◌≡◌, take, length, flat_map, Places, behind_space}
use Rattle.sas_answers.proofs.placing.place_rest.Given as goal

-- the words so far were placed
abbrev pub invariant-loop-word : goal.invariant-loop-word
invariant-loop-word l = record {
  length : length l.piece ≡ length l.fn.piece;
  places : Places l.fn.piece l.piece l.at (flat_map behind_space (take l.word-index l.words)) l.end;
}

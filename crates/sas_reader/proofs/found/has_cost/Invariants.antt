use Rattle.sas_reader.proofs.Imports.{length, drop, ◌-◌, ◌≡◌, ◌≤◌, codes, has_word}
use Rattle.sas_reader.proofs.found.has_cost.Given as goal

-- the word isn't found so far, so it occurs in the text exactly if it does in the rest
abbrev pub invariant-loop-at : goal.invariant-loop-at
invariant-loop-at l = record {
  within : l.at ≤ length l.text;
  rest : has_word (codes "cost") l.text ≡ has_word (codes "cost") (drop l.at l.text);
}

abbrev pub decreases-loop-at : goal.decreases-loop-at
decreases-loop-at l = length l.text - l.at

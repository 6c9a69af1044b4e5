use Rattle.sas_lines.proofs.Imports.{◌∷◌, List, ℕ, [], ap, ◌∙◌, sym}
use Rattle.sas_lines.proofs.Feeding.{takes_line, lines_of_end, unfinished_of_end}
use Rattle.sas_lines.proofs.lines.first_line.Goals as goal

pub returns-clause-some : goal.returns-clause-some
returns-clause-some c = record {
  taken = takes_line c.args.bytes.now c.in_ok-place.place c.in_ok-place.ensures;
  line = lines_of_end [] c.args.bytes.now c.in_ok-place.place tt c.in_ok-place.ensures ∙ ap (λ (x : List ℕ). x ∷ []) (sym c.without_return.ensures);
  rest = unfinished_of_end [] c.args.bytes.now c.in_ok-place.place tt c.in_ok-place.ensures;
}

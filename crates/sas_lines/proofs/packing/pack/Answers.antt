use Rattle.sas_lines.proofs.Imports.{◌≤◌, length, sym, ◌∙◌, arith, inl, inr, cases_lt}
use Rattle.sas_lines.proofs.Returns.{packed_at_first, packed_at_end}
use Rattle.sas_lines.proofs.packing.pack.Goals as goal

pub returns : goal.returns
returns c =
    let text = c.pack_runs.new.text in
    let at = c.pack_runs.result in
    let packs = c.pack_runs.ensures.packs in
    let all : length text ≤ at.read = elim (cases_lt at.read (length text)) [
      | inl more ↦ absurd (let gap = c.pack_runs.ensures.end more in omega (arith, more, gap, packs.long))
      | inr none ↦ none
    ] in
    sym (packed_at_end text at all) ∙ packs.same ∙ c.pack_most-most.ensures.same ∙ c.pack_runs-apart.ensures.packs.same ∙ packed_at_first c.args.text.now c.args.first c.requires.before

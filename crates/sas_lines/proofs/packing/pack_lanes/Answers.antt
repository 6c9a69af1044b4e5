use Rattle.sas_lines.proofs.Imports.{◌≡◌, ◌≢◌, ◌<◌, ◌≤◌, ℕ, sym, ap, ◌∙◌, arith, eqb, eqb-true, w8, chunk, count_trailing_zeros, bitmask_splat, length-chunk, trailing_mask_l, none_from_empty_mask, run_in_chunk_le, run_in_chunk_fails, run_in_chunk_stops}
use Rattle.sas_lines.proofs.Returns.{is_return, packs_run, packs_return, lanes_moved, lanes_without, all_clear}
use Rattle.sas_lines.proofs.packing.pack_lanes.Goals as goal

under : (run : ℕ) → run ≤ 16 → run ≢ 16 → run < 16
under run few apart = omega (arith, few, apart)

pub returns-then-returns-eq0-clause-packs : goal.returns-then-returns-eq0-clause-packs
returns-then-returns-eq0-clause-packs c =
    let text = c.args.text.now in
    let at = c.args.at in
    let room = c.requires.room in
    let gap = c.requires.gap in
    let long = length-chunk at.read 16 text room in
    let is = bitmask_splat w8 eqb (chunk at.read 16 text) 16 13 long (omega arith) in
    packs_run text at 16 16 (omega (arith, gap)) room (omega arith) (omega (arith, gap)) (lanes_without text at.read 16 (none_from_empty_mask is_return text at.read 16 0 room (sym is ∙ c.if-returns-eq0.true))) _ (lanes_moved text at.kept at.read (omega (arith, gap, room)) room)

pub returns-clause-packs : goal.returns-clause-packs
returns-clause-packs c =
    let text = c.args.text.now in
    let at = c.args.at in
    let room = c.requires.room in
    let gap = c.requires.gap in
    let v = chunk at.read 16 text in
    let long = length-chunk at.read 16 text room in
    let is = bitmask_splat w8 eqb v 16 13 long (omega arith) in
    let counted = ap (count_trailing_zeros 64) is ∙ trailing_mask_l is_return 64 v (omega (arith, long)) (omega (arith, is, c.if-returns-eq0.false)) in
    let few = run_in_chunk_le is_return text at.read 16 _ 0 room counted in
    let short = under _ few (λ whole. c.if-returns-eq0.false (is ∙ all_clear is_return v (sym counted ∙ whole ∙ sym long))) in
    packs_return text at _ 16 (omega (arith, gap)) room few (omega (arith, gap)) (lanes_without text at.read _ (run_in_chunk_fails is_return text at.read 16 _ 0 room counted)) _ (lanes_moved text at.kept at.read (omega (arith, gap, room)) room) (omega (arith, short, room)) (eqb-true _ 13 (run_in_chunk_stops is_return text at.read 16 _ 0 room counted (omega (arith, few, short))))

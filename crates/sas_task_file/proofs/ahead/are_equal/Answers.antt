use Rattle.sas_task_file.proofs.Imports.{◌≤◌, ◌∙◌, sym, arith, Decides-eqb, slice_eq-Decides}
use Rattle.sas_task_file.proofs.AheadReading.{by_ends}
use Rattle.sas_task_file.proofs.ahead.are_equal.Goals as goal

pub returns-then-eq : goal.returns-then-eq
returns-then-eq g c last =
    let low : 8 ≤ g.row.N = omega (arith, c.if-this-lt8.false) in
    let high : g.row.N ≤ 16 = omega (arith, c.if-this-gt16.false) in
    let same_first = (slice_eq-Decides Decides-eqb c.first_eight.result c.first_eight-2.result _ c.eq-2.ensures).0 c.if-eq.true in
    let same_last = (slice_eq-Decides Decides-eqb c.last_eight.result c.last_eight-then-eq.result _ c.eq-then-eq.ensures).0 last in
    by_ends g.row.N c.args.a.now c.args.b.now low high (sym (c.first_eight.ensures low) ∙ same_first ∙ c.first_eight-2.ensures low) (sym (c.last_eight.ensures low) ∙ same_last ∙ c.last_eight-then-eq.ensures low)

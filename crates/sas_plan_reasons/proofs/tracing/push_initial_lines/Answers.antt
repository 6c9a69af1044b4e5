-- One line more is pushed.
use Rattle.sas_plan_reasons.proofs.Imports.{◌<◌, ◌++◌, ◌∷◌, [], rules, codes, slice_index, fact_line, length, arith, Pushes, initial_all, initial_next}
use Rattle.sas_plan_reasons.proofs.tracing.push_initial_lines.Goals as goal

pub loop-var-preserved : goal.loop-var-preserved
loop-var-preserved g c =
    let below : c.loop-var.var < length c.args.state.now = omega (arith, c.loop-var-test.true, c.variables-var-end.ensures.count, c.requires) in
    let line : Pushes g.W.Write.contents c.loop-var.sink c.push_line.new.self (fact_line (codes "initial") c.args.task.now.variables c.loop-var.var (slice_index c.args.state.now c.loop-var.var) ++ 10 ∷ []) = search rules in
    initial_next _ _ _ _ _ _ _ below c.loop-var.invariant line

pub returns : goal.returns
returns g c = search (arith, length, initial_all)

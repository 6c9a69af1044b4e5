use Rattle.sas_reader.proofs.Imports.{arith, sym, ◌∙◌}
use Rattle.sas_reader.proofs.Keeping.{word_behind}
use Rattle.sas_reader.proofs.found.has_cost.Goals as goal

pub loop-at-preserved : goal.loop-at-preserved
loop-at-preserved c = record {
  within = omega (arith, c.loop-at-test.true);
  rest = c.loop-at.invariant.rest ∙ word_behind c.args.text.now c.loop-at.at (omega (arith, c.loop-at-test.true)) (sym c.begins_with_cost.ensures ∙ c.if-begins_with_cost.false);
}

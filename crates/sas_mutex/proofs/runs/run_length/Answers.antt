-- One more fact is on the variable.
use Rattle.sas_mutex.proofs.RunLengths.{on_more}
use Rattle.sas_mutex.proofs.runs.run_length.Goals as goal

pub loop-place-preserved : goal.loop-place-preserved
loop-place-preserved c = on_more c.args.facts.now c.args.var c.loop-place.place _ c.loop-place-test.true c.loop-place.invariant c.if-fact-var.false

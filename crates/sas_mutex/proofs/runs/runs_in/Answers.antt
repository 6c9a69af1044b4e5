-- One more run.
use Rattle.sas_mutex.proofs.RunLengths.{next_run}
use Rattle.sas_mutex.proofs.runs.runs_in.Goals as goal

pub loop-first-preserved : goal.loop-first-preserved
loop-first-preserved c = next_run c.args.facts.now c.loop-first.left.now c.split_at.result.0.now c.split_at.result.1.now c.loop-first.runs c.push.new.self
    c.run_length.result _ c.loop-first.invariant c.run_length.ensures.within c.run_length.ensures.on_it c.split_at.ensures.front c.split_at.ensures.back c.in_ok-push.ensures.ok

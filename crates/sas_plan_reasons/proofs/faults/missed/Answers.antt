-- What is reported of the goal is all that is reported.
use Rattle.sas_plan_reasons.proofs.Faulty.{all_reported}
use Rattle.sas_plan_reasons.proofs.faults.missed.Goals as goal

pub returns : goal.returns
returns g c = all_reported c.args.task.now c.args.history.now _ c.in_ok-explanation.explanation c.explain_missed.new.explanation c.in_ok-explanation.ensures.explanation c.in_ok-explanation.ensures.empty c.in_ok-explain_missed.ensures

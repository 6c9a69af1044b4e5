-- A step that fails leaves the state as it is.
use Rattle.sas_run.proofs.anyway.make_anyway.Goals as goal

pub make_failing-requires-clause-fails : goal.make_failing-requires-clause-fails
make_failing-requires-clause-fails g c =
    let made = rw c.in-Err.is at c.make_plan_step.ensures.makes in
    (c.args.before, c.requires.exists, rw made.1 made.0)

-- Writing all values that the effects give is applying them.
use Rattle.sas_run.proofs.Imports.{operator_at}
use Rattle.sas_run.proofs.Giving.{applied}
use Rattle.sas_run.proofs.steps.apply_given.Goals as goal

pub returns-clause-applies : goal.returns-clause-applies
returns-clause-applies g c =
    let p = c.args.task.now in
    applied p c.args.state.now (operator_at p c.args.operator) c.give_effects.new.given c.write_given.new.state
    c.requires.applicable c.in_default.ensures.none c.write_given.ensures.state c.write_given.ensures.written

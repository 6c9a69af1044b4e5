-- Making the changes one after another is applying the effects.
use Rattle.std.proofs.lemmas.Grind.{common_steps}
use Rattle.sas_run.proofs.Imports.{arith, length-map, operator_at}
use Rattle.sas_run.proofs.PlainSteps.{applied_plainly}
use Rattle.sas_run.proofs.steps.apply.Goals as goal

pub returns-in-Some-clause-applies : goal.returns-in-Some-clause-applies
returns-in-Some-clause-applies g c =
    applied_plainly c.args.task.now c.args.state.now (operator_at c.args.task.now c.args.operator) c.in-Some.changes.now
    c.make_changes.new.state c.requires.applicable c.in-Some.ensures c.make_changes.ensures.made

pub make_changes-requires-clause-room : goal.make_changes-requires-clause-room
make_changes-requires-clause-room g c = grind (arith, common_steps, length-map)

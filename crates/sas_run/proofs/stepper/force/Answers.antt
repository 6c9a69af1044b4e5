-- The effects that fire are written, and the result is settled.
use Rattle.sas_run.proofs.Imports.{sym, ◌∙◌}
use Rattle.sas_run.proofs.NextStates.{settled_if_basic}
use Rattle.sas_run.proofs.GivenLast.{forced_from}
use Rattle.sas_run.proofs.stepper.force.Goals as goal

pub returns-then-stepper-clause-forced : goal.returns-then-stepper-clause-forced
returns-then-stepper-clause-forced g c =
    forced_from c.args.layered.now c.args.state.now c.args.operator c.give_last.new.given c.write_given.new.state c.settle_on.new.state c.task.ensures.well_ranged c.requires.operator
    c.requires.at.state c.give_last.ensures.given c.write_given.ensures.written c.settle_on.ensures.settles

pub returns-else-stepper-clause-forced : goal.returns-else-stepper-clause-forced
returns-else-stepper-clause-forced g c =
    let p = c.args.layered.now in
    let basic = c.requires.at.prepared.basic (sym c.write_given.ensures.notes.noted ∙ c.if-stepper.false) in
    forced_from p c.args.state.now c.args.operator c.give_last.new.given c.write_given.new.state c.write_given.new.state c.task.ensures.well_ranged c.requires.operator
    c.requires.at.state c.give_last.ensures.given c.write_given.ensures.written (settled_if_basic p c.write_given.new.state basic c.write_given.ensures.state)

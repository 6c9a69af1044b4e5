-- The steps were made, and the plan ends.
use Rattle.sas_run.proofs.Imports.{refl, subst, inl, inr, ℕ, List, Makes, EndsSteps, start_of}
use Rattle.sas_run.proofs.GoingByNumbers.{goes_by}
use Rattle.sas_run.proofs.Observing.{noted}
use Rattle.sas_run.proofs.plan_check.find_end.Goals as goal
use Rattle.sas_run.proofs.plan_check.find_end.Goals.{in-Some, in-None}

pub last_fault-fault-requires-clause-exist : goal.last_fault-fault-requires-clause-exist
last_fault-fault-requires-clause-exist g c =
    let p = c.args.layered.now in
    let made = c.make_steps.ensures.made in
    let are = noted c.in_ok-operators.operators c.make_steps.new.observer made.operators c.in_ok-operators.ensures.items made.sees.0 in
    rw c.as_slice.ensures.value (rw are at (goes_by p made.operators c.make_steps.new.state made.makes.through))

pub returns-clause-ends : goal.returns-clause-ends
returns-clause-ends g c =
    let p = c.args.layered.now in
    let Means = g.C.Chooser.means c.args.chooser.now p in
    let start : List ℕ = start_of p (g.C.Chooser.starts c.args.chooser.now) in
    let made = c.make_steps.ensures.made in
    let items = c.make_steps.new.observer.items in
    let are = noted c.in_ok-operators.operators c.make_steps.new.observer made.operators c.in_ok-operators.ensures.items made.sees.0 in
    let makes = subst (λ os. Makes p start Means os c.make_steps.new.state) are made.makes in
    let ends = subst (λ os. EndsSteps p start Means (g.C.Chooser.count c.args.chooser.now) os c.make_steps.new.state c.make_steps.result) are made.ends in
    elim c.match-make_steps.branch [
      | in-Some w ↦ rw w.fault-is (record { s = c.make_steps.new.state; makes = makes; ends = inl (_, refl, rw w.in-Some.is at ends) })
      | in-None w ↦ rw w.fault-is (record { s = c.make_steps.new.state; makes = makes; ends = inr (rw w.in-None.is at ends, rw (w.as_slice.ensures.value, w.cost.ensures) at w.last_fault-fault.ensures) })
    ]

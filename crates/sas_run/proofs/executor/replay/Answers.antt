-- All operators are made once more.
use Rattle.sas_run.proofs.Imports.{ℕ, List, subst, GoesThroughFrom, start_of}
use Rattle.sas_run.proofs.Observing.{all_made}
use Rattle.sas_run.proofs.executor.replay.Goals as goal

pub returns-clause-through : goal.returns-clause-through
returns-clause-through g c =
    let p = c.args.layered.now in
    let plan = c.args.plan.now in
    let start : List ℕ = start_of p plan.start.now in
    let made = c.make_steps.ensures.made in
    let (last, through) = c.requires.through in
    subst (λ os. GoesThroughFrom p start os c.make_steps.new.state) (all_made p c.requires.at.prepared.layered start plan.operators.now last through made.operators _ _ made.makes made.ends) made.makes.through

pub returns-clause-sees : goal.returns-clause-sees
returns-clause-sees g c =
    let p = c.args.layered.now in
    let plan = c.args.plan.now in
    let start : List ℕ = start_of p plan.start.now in
    let made = c.make_steps.ensures.made in
    let (last, through) = c.requires.through in
    subst (g.O.Observer.sees p start c.args.observer.now c.make_steps.new.observer) (all_made p c.requires.at.prepared.layered start plan.operators.now last through made.operators _ _ made.makes made.ends) made.sees

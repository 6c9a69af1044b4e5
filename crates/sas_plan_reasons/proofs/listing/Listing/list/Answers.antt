-- What is listed covers what changed.
use Rattle.sas_plan_reasons.proofs.Imports.{operator_at}
use Rattle.sas_plan_reasons.proofs.ListedChanges.{lists_effects}
use Rattle.sas_plan_reasons.proofs.listing.Listing.list.Goals as goal

pub returns-then-effects-self-clause-covers : goal.returns-then-effects-self-clause-covers
returns-then-effects-self-clause-covers g c =
    rw c.list_derived.ensures.vars (lists_effects c.args.task.now c.args.before.now (operator_at c.args.task.now c.args.operator) c.args.after.now c.list_effects.new.self.vars.items c.in-Some.derived.now
    c.requires.before c.requires.step c.list_effects.ensures.exist c.list_effects.ensures.each (rw c.in-Some.is at c.requires.derived))

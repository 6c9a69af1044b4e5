-- One variable more is looked at.
use Rattle.sas_plan_reasons.proofs.Imports.{length, take_all, arith, contains_none}
use Rattle.sas_plan_reasons.proofs.Looking.{among_more, notes_more, notes_none}
use Rattle.sas_plan_reasons.proofs.changes.Changes.note.Goals as goal

pub loop-var-init : goal.loop-var-init
loop-var-init c = notes_none _ _ _ _ c.requires.places contains_none

pub loop-var-preserved : goal.loop-var-preserved
loop-var-preserved c = search (arith, notes_more, among_more)

pub returns : goal.returns
returns c = search (arith, length, take_all)

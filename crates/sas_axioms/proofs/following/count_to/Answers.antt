-- The counter is set, and the rule is noted with its layer.
use Rattle.sas_axioms.proofs.Imports.{arith, rules}
use Rattle.sas_axioms.proofs.AgendaOrder.{noted_there, notes_more, notes_left}
use Rattle.sas_axioms.proofs.OneLayer.{one_layer}
use Rattle.sas_axioms.proofs.following.count_to.Goals as goal

pub returns-in_ok-note-clause-counts : goal.returns-in_ok-note-clause-counts
returns-in_ok-note-clause-counts g c = search (arith, one_layer, noted_there, notes_more, notes_left)

pub returns-in_err-note-clause-same : goal.returns-in_err-note-clause-same
returns-in_err-note-clause-same g c = search rules

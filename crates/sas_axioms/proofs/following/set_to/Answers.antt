-- The counters are those of the new value.
use Rattle.sas_axioms.proofs.Imports.{sym, ◌∙◌}
use Rattle.sas_axioms.proofs.following.set_to.Goals as goal

pub returns-clause-moves : goal.returns-clause-moves
returns-clause-moves g c = rw c.set.ensures (c.in_ok-recount.ensures.moves c.args.state.now c.requires.counts (sym c.value.ensures))

pub value-requires : goal.value-requires
value-requires g c = rw c.requires.counts.known c.requires.exists

pub recount-requires : goal.recount-requires
recount-requires g c = record { exists = c.requires.exists; differ = λ same. c.requires.other (sym c.value.ensures ∙ same); counts = (c.args.state.now, c.requires.counts, sym c.value.ensures); ordered = c.requires.ordered }

pub set-requires : goal.set-requires
set-requires g c = rw c.requires.counts.known c.requires.exists

-- Subtracting the work doesn't change which rules are noted.
use Rattle.sas_axioms.proofs.Imports.{sym, arith}
use Rattle.sas_axioms.proofs.agenda.Agenda.note.Goals as goal

pub returns-in-Ok : goal.returns-in-Ok
returns-in-Ok c =
    let paid = c.in_ok-pay.ensures in
    record {
      noted = rw (sym paid.noted) c.in-Ok.ensures.permutation;
      ordered = c.in-Ok.ensures.heap_order (rw paid.noted c.requires);
      ready = paid.ready;
      left = let l = paid.left in omega arith;
    }

-- Only the records of the fact's variable and groups change.
use Rattle.sas_mutex.proofs.Imports.{length, cases_eq, eqb-false, length-set, get_or-set_other, arith, common_steps, value_note}
use Rattle.sas_mutex.proofs.notes.note.Goals as goal

pub returns-in-Some-clause-no : goal.returns-in-Some-clause-no
returns-in-Some-clause-no c = grind (arith, common_steps, eqb-false)

pub returns-else-shares_apart-clause-no : goal.returns-else-shares_apart-clause-no
returns-else-shares_apart-clause-no c = search (arith)

pub returns-else-shares_apart-clause-changes : goal.returns-else-shares_apart-clause-changes
returns-else-shares_apart-clause-changes c = search (arith, length, length-set, cases_eq, value_note, get_or-set_other)

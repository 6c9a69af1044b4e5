use Rattle.sas_c.proofs.Imports.{[], plain}
use Rattle.sas_c.proofs.Returned.{invariants_reported}
use Rattle.sas_c.proofs.requests.sas_mutex.Goals as goal

pub returns-clause-invariants : goal.returns-clause-invariants
returns-clause-invariants c = invariants_reported plain c.args.task.now [] _ _ _ _ c.answer_call.ensures

-- The list contains one more, unless there is no memory.
use Rattle.sas_mutex.proofs.Imports.{arith, common_steps, Contains-push_cases, contains_none}
use Rattle.sas_mutex.proofs.family.Family.note_excluding.Goals as goal

pub returns-clause-excluding : goal.returns-clause-excluding
returns-clause-excluding c = grind (arith, common_steps, Contains-push_cases, contains_none)

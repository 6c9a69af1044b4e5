-- Each law is a lemma.
use Rattle.sas_groups.proofs.StateVerdicts.{initial_is_no_invariant, invariant_there, exclusive_there}
use Rattle.sas_groups.proofs.verdict_laws.group_verdict_laws.Goals as goal

pub returns : goal.returns
returns c = record { initial = initial_is_no_invariant; there = invariant_there; exclusive_there = exclusive_there }

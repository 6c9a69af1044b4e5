-- Each law is a lemma.
use Rattle.sas_meaning.proofs.Exists.{settled_exists, initial_exists}
use Rattle.sas_meaning.proofs.LayerChecksAreRules.{checks_are_rules}
use Rattle.sas_meaning.proofs.Unique.{settled_is_one, step_is_one}
use Rattle.sas_meaning.proofs.laws.meaning_laws.Goals as goal

pub returns-clause-settled : goal.returns-clause-settled
returns-clause-settled c = settled_exists

pub returns-clause-settled_one : goal.returns-clause-settled_one
returns-clause-settled_one c = settled_is_one

pub returns-clause-initial : goal.returns-clause-initial
returns-clause-initial c = initial_exists

pub returns-clause-initial_one : goal.returns-clause-initial_one
returns-clause-initial_one c p a b layered = settled_is_one p p.init a b layered

pub returns-clause-step_one : goal.returns-clause-step_one
returns-clause-step_one c = step_is_one

pub returns-clause-checks : goal.returns-clause-checks
returns-clause-checks c = checks_are_rules

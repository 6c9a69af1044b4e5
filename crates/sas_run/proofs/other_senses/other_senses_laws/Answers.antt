-- Each law is proved as a lemma.
use Rattle.sas_run.proofs.OtherSenses.{usually_valid, valid_there, ends_there}
use Rattle.sas_run.proofs.other_senses.other_senses_laws.Goals as goal

pub returns : goal.returns
returns c = record { usual = usually_valid; there = valid_there; there_one = ends_there }

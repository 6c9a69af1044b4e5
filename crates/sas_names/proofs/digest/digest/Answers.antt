-- The hasher hashes nothing but the name.
use Rattle.sas_names.proofs.Imports.{rules, digest_of}
use Rattle.sas_names.proofs.digest.digest.Goals as goal

pub returns : goal.returns
unfolding digest_of
returns c = search rules

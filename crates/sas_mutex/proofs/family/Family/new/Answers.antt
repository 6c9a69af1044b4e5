-- Each field of the family has the contract of the call that returned it.
use Rattle.sas_mutex.proofs.Imports.{false, length, replicate, arith, get_or-eq_default, cases_lt, length-replicate, get_or-replicate, family_of}
use Rattle.sas_mutex.proofs.family.Family.new.Goals as goal

pub returns : goal.returns
returns c = search (arith, length, replicate, false, length-replicate, family_of, cases_lt, get_or-replicate, get_or-eq_default)

-- One more operator is confirmed.
use Rattle.std.specs.Option.{unwrap_or}
use Rattle.sas_names.proofs.Imports.{length, get_or, slice_set, arith, rules, cases_eq, get_or_read, get_or-set_same, get_or-set_other, length-set, operator_at, likely_of, existing}
use Rattle.sas_names.proofs.LikelyOperators.{likely_some, likely_none}
use Rattle.sas_names.proofs.names.Names.first_operators.Goals as goal

pub loop-step-preserved : goal.loop-step-preserved
loop-step-preserved g c = search (arith, length, get_or, get_or_read, likely_of, unwrap_or, existing, cases_eq, length-set, slice_set, get_or-set_same, get_or-set_other, operator_at, rules, likely_some, likely_none)

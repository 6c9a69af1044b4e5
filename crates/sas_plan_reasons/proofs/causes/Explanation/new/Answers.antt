-- Nothing is reported.
use Rattle.sas_plan_reasons.proofs.Imports.{common_steps, arith, rules, ◌≡◌, ℕ, false, length, get_or, replicate, false≢true, length-replicate, contains_none}
use Rattle.sas_plan_reasons.proofs.causes.Explanation.new.Goals as goal

none_kept : (n var : ℕ) → get_or (replicate n false) var false ≡ false
none_kept n var = grind (arith, common_steps)

pub returns-clause-explanation : goal.returns-clause-explanation
returns-clause-explanation g c = search (arith, replicate, false, rules, contains_none, false≢true, length, length-replicate, get_or, none_kept)

-- Where no step may mean another operator, there is no line.
use Rattle.sas_plan_reasons.proofs.Imports.{[], refl, sym, subst, inr, append-nil, IsOtherIfAny}
use Rattle.sas_plan_reasons.proofs.faults.push_other.Goals as goal

pub returns-in-None : goal.returns-in-None
returns-in-None c p run may = ([], inr (subst (IsOtherIfAny p run) c.in-None.is may, refl), sym (append-nil c.args.lines.now))

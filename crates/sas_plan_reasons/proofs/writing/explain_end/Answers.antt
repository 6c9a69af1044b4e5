-- The plan ends with a fault, or is valid, after a run.
use Rattle.sas_plan_reasons.proofs.Imports.{List, ℕ, subst, Option, IfOk-weaker, Parts, PlanFault, IsEnding, IsValid, MakeAnswer}
use Rattle.sas_plan_reasons.proofs.writing.explain_end.Goals as goal

pub returns-in-None-clause-answer : goal.returns-in-None-clause-answer
returns-in-None-clause-answer g c =
    let p = c.args.named.now.task.now in
    let plan = c.args.named.now.plan.now in
    let (run, of, ends, are) = subst (λ (fault : Option PlanFault). IsEnding p plan c.args.end.operators.items fault) c.in-None.is c.requires.ends in
    IfOk-weaker c.explain_valid.result (λ explained. (q : Parts) (operators : List ℕ) → IsValid q plan operators → MakeAnswer q plan explained.0 explained.1.items) _
    (λ explained is. is p run.operators ends.0) c.explain_valid.ensures

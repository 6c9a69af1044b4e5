use Rattle.sas_plan_file.proofs.Imports.{sym, ap, subst, Err, Fault, Finishes, end_fault, plan_format, PlanLineFits, plan_node, plan_start, plan_behavior, plan_view}
use Rattle.sas_plan_file.proofs.PlanGrammar.{plan_grammar}
use Rattle.sas_plan_file.proofs.PlanStanding.{plan_follows, read_plan_parts}
use Rattle.sas_plan_file.proofs.plan_reader.PlanReader.finish.Goals as goal

pub returns-in-Ok : goal.returns-in-Ok
returns-in-Ok c =
    let end = c.in-Ok.ensures in
    record {
      read = λ bytes s. read_plan_parts c.args.self.reader.limit c.in-Ok.machine c.into_plan.result bytes c.into_plan.ensures (end.reached bytes s);
      fault = tt;
      memory = tt;
      kept = λ f e. absurd (end.kept f e);
    }

pub returns-in-Err : goal.returns-in-Err
returns-in-Err c =
    let end = c.in-Err.ensures in
    subst (λ (f : Fault). Finishes plan_view c.args.self (Err f)) (sym c.into_fault.ensures) (record {
      read = tt;
      fault = end_fault plan_format PlanLineFits plan_node plan_start plan_grammar plan_behavior plan_follows c.args.self.reader c.in-Err.refused end.refused;
      memory = end.refused.memory;
      kept = λ f e. ap (λ (x : Fault). Err x) (end.kept f e);
    })

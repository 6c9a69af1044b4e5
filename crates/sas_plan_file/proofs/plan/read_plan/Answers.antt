use Rattle.sas_plan_file.proofs.Imports.{sym, subst, Err, ReadsAll, ValueOf, Fault, reads_all, refuses_all, plan_format, PlanLineFits, plan_node, plan_start, plan_behavior}
use Rattle.sas_plan_file.proofs.PlanGrammar.{plan_grammar}
use Rattle.sas_plan_file.proofs.PlanStanding.{plan_follows, read_plan_parts}
use Rattle.sas_plan_file.proofs.plan.read_plan.Goals as goal

pub returns-in-Ok : goal.returns-in-Ok
returns-in-Ok g c =
    reads_all plan_format PlanLineFits plan_node plan_start plan_grammar plan_behavior plan_follows g.R.Read.remaining _ _ _ _ _ c.in-Ok.ensures (λ b reached short. read_plan_parts _ c.in-Ok.machine c.into_plan.result b c.into_plan.ensures (reached, short))

pub returns-in-Err : goal.returns-in-Err
returns-in-Err g c =
    subst (λ (f : Fault). ReadsAll g.R.Read.remaining plan_format (ValueOf plan_format) c.args.reader.now c.read_all.new.device (Err f)) (sym c.into_fault.ensures)
    (refuses_all plan_format PlanLineFits plan_node plan_start plan_grammar plan_behavior plan_follows g.R.Read.remaining _ _ _ c.in-Err.refused c.in-Err.ensures)

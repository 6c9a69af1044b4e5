use Rattle.sas_plan_file.proofs.Imports.{ap, Fault, reads_explained, refuses_explained, plan_format, PlanLineFits, plan_node, plan_start, plan_behavior, fault_of, found_of, TellsLacks}
use Rattle.sas_plan_file.proofs.PlanEnds.{tells_lacks}
use Rattle.sas_plan_file.proofs.PlanGrammar.{plan_grammar}
use Rattle.sas_plan_file.proofs.PlanStanding.{plan_follows, read_plan_parts}
use Rattle.sas_plan_file.proofs.plan.read_flat_plan.Goals as goal

pub returns-in-Ok : goal.returns-in-Ok
returns-in-Ok g c =
    reads_explained plan_format PlanLineFits plan_node plan_start plan_grammar plan_behavior plan_follows fault_of found_of TellsLacks g.R.Read.remaining _ _ _ _ _ c.in-Ok.ensures (λ b reached short. read_plan_parts _ c.in-Ok.machine c.into_flat_plan.result b c.into_flat_plan.ensures (reached, short))

pub returns-in-Err : goal.returns-in-Err
returns-in-Err g c =
    refuses_explained plan_format PlanLineFits plan_node plan_start plan_grammar plan_behavior plan_follows fault_of found_of TellsLacks c.in-Err.refused _ c.of.ensures.fault c.of.ensures.found (λ a t s f. tells_lacks plan_behavior plan_follows c.in-Err.refused.fault.kind c.in-Err.refused.machine c.of.result (ap (λ (f : Fault). f.kind) c.of.ensures.fault) a t (c.of.ensures.line_end t f) (c.of.ensures.cost_line t f) s) g.R.Read.remaining _ _ _ c.in-Err.ensures

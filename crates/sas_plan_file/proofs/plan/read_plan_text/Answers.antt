use Rattle.sas_plan_file.proofs.Imports.{ap, Fault, ◌∙◌, some_read, reads_explained, refuses_explained, plan_format, PlanLineFits, plan_node, plan_start, fault_of, found_of, TellsLacks, text_behavior}
use Rattle.sas_plan_file.proofs.PlanEnds.{tells_lacks}
use Rattle.sas_plan_file.proofs.PlanGrammar.{plan_grammar}
use Rattle.sas_plan_file.proofs.PlanKeeping.{text_follows, text_is}
use Rattle.sas_plan_file.proofs.plan.read_plan_text.Goals as goal

-- if the machine has ended, it has the text of what was read
pub returns-in-Ok : goal.returns-in-Ok
returns-in-Ok g c =
    reads_explained plan_format PlanLineFits plan_node plan_start plan_grammar text_behavior text_follows fault_of found_of TellsLacks g.R.Read.remaining _ _ _ _ _ c.in-Ok.ensures (λ b reached short.
    let r = some_read plan_format PlanLineFits plan_node plan_start plan_grammar text_behavior text_follows c.in-Ok.machine b reached c.in-Ok.ensures.at_end in
    (r.0, (r.1, short), c.into_text.ensures ∙ text_is c.in-Ok.machine b r.0 reached.led r.1))

pub returns-in-Err : goal.returns-in-Err
returns-in-Err g c =
    refuses_explained plan_format PlanLineFits plan_node plan_start plan_grammar text_behavior text_follows fault_of found_of TellsLacks c.in-Err.refused _ c.of.ensures.fault c.of.ensures.found (λ a t s f. tells_lacks text_behavior text_follows c.in-Err.refused.fault.kind c.in-Err.refused.machine c.of.result (ap (λ (f : Fault). f.kind) c.of.ensures.fault) a t (c.of.ensures.line_end t f) (c.of.ensures.cost_line t f) s) g.R.Read.remaining _ _ _ c.in-Err.ensures

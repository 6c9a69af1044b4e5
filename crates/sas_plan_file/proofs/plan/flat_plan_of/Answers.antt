-- All bytes were fed to the reader.
use Rattle.sas_plan_file.proofs.Imports.{[], Ok, Err, sym, ap, subst, ◌∙◌, Fault, ConcernsText, ReadsAs, most_bytes, IsRefused, end_fault, explained_by, explains, plan_format, PlanLineFits, plan_node, plan_start, plan_behavior, fault_of, found_of, TellsLacks}
use Rattle.sas_plan_file.proofs.PlanEnds.{tells_lacks}
use Rattle.sas_plan_file.proofs.PlanGrammar.{plan_grammar}
use Rattle.sas_plan_file.proofs.PlanStanding.{plan_follows, read_plan_parts}
use Rattle.sas_plan_file.proofs.plan.flat_plan_of.Goals as goal

pub returns-in-Ok-clause-read : goal.returns-in-Ok-clause-read
returns-in-Ok-clause-read c =
    let bytes = c.args.bytes.now in
    let stands = c.feed.ensures.stands [] c.new-reader.ensures.stands in
    let limit = c.feed.ensures.limit ∙ c.new-reader.ensures.limit in
    subst (λ n. ReadsAs plan_format n bytes (Ok c.into_flat_plan.result)) limit
    (read_plan_parts c.feed.new.self.limit c.in-Ok.machine c.into_flat_plan.result bytes c.into_flat_plan.ensures (c.in-Ok.ensures.reached bytes stands))

pub returns-in-Err-clause-fault : goal.returns-in-Err-clause-fault
returns-in-Err-clause-fault c =
    let bytes = c.args.bytes.now in
    let stands = c.feed.ensures.stands [] c.new-reader.ensures.stands in
    let limit = c.feed.ensures.limit ∙ c.new-reader.ensures.limit in
    let r = c.in-Err.refused in
    let same = c.of.ensures.fault in
    λ ne. subst (λ (f : Fault). ReadsAs plan_format most_bytes bytes (Err f)) (sym same)
    (subst (λ n. ReadsAs plan_format n bytes (Err r.fault)) limit
    (end_fault plan_format PlanLineFits plan_node plan_start plan_grammar plan_behavior plan_follows c.feed.new.self r c.in-Err.ensures.refused (λ e. ne (ap (λ (f : Fault). f.kind) same ∙ e)) bytes stands))

pub returns-in-Err-clause-explained : goal.returns-in-Err-clause-explained
returns-in-Err-clause-explained c =
    let bytes = c.args.bytes.now in
    let stands = c.feed.ensures.stands [] c.new-reader.ensures.stands in
    let limit = c.feed.ensures.limit ∙ c.new-reader.ensures.limit in
    let r = c.in-Err.refused in
    let same = c.of.ensures.fault in
    λ is_explained.
    let reported = subst (λ (f : Fault). ConcernsText f.kind) same is_explained in
    explains plan_format PlanLineFits plan_node plan_start plan_grammar plan_behavior plan_follows fault_of found_of TellsLacks r _ same c.of.ensures.found (λ a t s f. tells_lacks plan_behavior plan_follows r.fault.kind r.machine c.of.result (ap (λ (f : Fault). f.kind) same) a t (c.of.ensures.line_end t f) (c.of.ensures.cost_line t f) s) bytes
    (explained_by plan_format PlanLineFits plan_node plan_start plan_grammar plan_behavior plan_follows most_bytes bytes r reported
    (subst (λ n. IsRefused plan_behavior n bytes r) limit (c.in-Err.ensures.refused.fault reported.2 bytes stands)))

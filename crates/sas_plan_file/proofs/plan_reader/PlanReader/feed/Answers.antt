use Rattle.sas_plan_file.proofs.PlanGrammar.{plan_grammar}
use Rattle.sas_plan_file.proofs.PlanStanding.{plan_follows}
use Rattle.sas_plan_file.proofs.Imports.{◌++◌, ∥∥₁_map, feeds, plan_format, PlanLineFits, plan_node, plan_start, plan_behavior}
use Rattle.sas_plan_file.proofs.plan_reader.PlanReader.feed.Goals as goal

pub returns : goal.returns
returns c =
    let f = feeds plan_format PlanLineFits plan_node plan_start plan_grammar plan_behavior plan_follows _ _ _ _ c.feed.ensures in
    record { stands = f.stands; live = f.live; fault = f.fault; answer = f.answer; kept = f.kept; kind = f.kind; memory = f.memory; limit = f.limit }

pub invariant_of-self : goal.invariant_of-self
invariant_of-self c = record { some = ∥∥₁_map c.args.self.now.some (λ s. (s.0 ++ c.args.piece.now, c.feed.ensures.stands s.0 s.1)) }

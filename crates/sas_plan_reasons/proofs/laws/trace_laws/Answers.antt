-- Each law is a lemma.
use Rattle.sas_plan_reasons.proofs.Imports.{arith}
use Rattle.sas_plan_reasons.proofs.Replaying.{replays}
use Rattle.sas_plan_reasons.proofs.Answering.{behind_trace, costs_add_up, some_trace, one_trace}
use Rattle.sas_plan_reasons.proofs.laws.trace_laws.Goals as goal

pub returns : goal.returns
returns c = search (arith, replays, behind_trace, costs_add_up, some_trace, one_trace)

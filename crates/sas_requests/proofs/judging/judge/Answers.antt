use Rattle.sas_requests.proofs.Imports.{arith, ValueOf, task_format, known_answer}
use Rattle.sas_requests.proofs.PlansHeadlines.{plans_headline}
use Rattle.sas_requests.proofs.TaskAnswers.{layered_output, layered_taken, refused_output, refused_taken}
use Rattle.sas_requests.proofs.Turns.{in_turn_refused, tool_same, tool_failed, tool_read, tool_written, tool_long}
use Rattle.sas_requests.proofs.judging.judge.Goals as goal

pub returns-in-Layered-clause-output : goal.returns-in-Layered-clause-output
returns-in-Layered-clause-output g c =
    rw (rw c.in-Layered.is at c.read_layered.ensures.silent) at (layered_output g.T.Read.remaining c.args.reasons (g.S.PlanInputs.bytes c.args.plans.now) (g.S.PlanInputs.labels c.args.plans.now) _ _ _ c.in-Layered.layered (rw c.in-Layered.is at c.read_layered.ensures.read) (rw c.in-Layered.is at c.read_layered.ensures.layered) c.answer_plans.result c.answer_plans.ensures.judges)

pub returns-in-Layered-clause-taken : goal.returns-in-Layered-clause-taken
returns-in-Layered-clause-taken g c =
    rw (rw c.in-Layered.is at c.read_layered.ensures.silent) at (layered_taken g.T.Read.remaining c.args.reasons (g.S.PlanInputs.bytes c.args.plans.now) (g.S.PlanInputs.labels c.args.plans.now) _ _ _ c.in-Layered.layered (rw c.in-Layered.is at c.read_layered.ensures.read) (rw c.in-Layered.is at c.read_layered.ensures.layered) c.answer_plans.result c.answer_plans.ensures.judges)

pub returns-in-Layered-clause-headline : goal.returns-in-Layered-clause-headline
returns-in-Layered-clause-headline g c =
    plans_headline c.args.reasons (g.S.PlanInputs.labels c.args.plans.now) c.requires.labels _ _ _ _ c.answer_plans.result (returns-in-Layered-clause-output g c)

pub returns-in-Layered-clause-opens : goal.returns-in-Layered-clause-opens
returns-in-Layered-clause-opens g c = c.answer_plans.ensures.opens _

pub returns-in-Ended-clause-output : goal.returns-in-Ended-clause-output
returns-in-Ended-clause-output g c = rw (c.judge_ended.ensures, tool_same c.in-Ended.ended) (λ b cs known have.
    refused_output g.T.Read.remaining c.args.reasons (g.S.PlanInputs.bytes c.args.plans.now) (g.S.PlanInputs.labels c.args.plans.now) _ _ _ c.in-Ended.ended (rw c.in-Ended.is at c.read_layered.ensures.refused).ends b cs known)

pub returns-in-Ended-clause-taken : goal.returns-in-Ended-clause-taken
returns-in-Ended-clause-taken g c = search (arith, tool_same, refused_taken)

pub returns-in-Ended-clause-headline : goal.returns-in-Ended-clause-headline
returns-in-Ended-clause-headline g c =
    plans_headline c.args.reasons (g.S.PlanInputs.labels c.args.plans.now) c.requires.labels _ _ _ _ c.judge_ended.result (returns-in-Ended-clause-output g c)

pub returns-in-Ended-clause-nothing : goal.returns-in-Ended-clause-nothing
returns-in-Ended-clause-nothing g c = rw c.judge_ended.ensures (tool_failed _ c.in-Ended.ended (rw c.in-Ended.is at c.read_layered.ensures.refused).nothing)

pub returns-in-Ended-clause-opens : goal.returns-in-Ended-clause-opens
returns-in-Ended-clause-opens g c = rw c.judge_ended.ensures (in_turn_refused g.S.PlanInputs.open_gives c.args.reasons _ _ _ _ c.in-Ended.ended (rw c.in-Ended.is at c.read_layered.ensures.refused).ends.output)

pub returns-in-Ended-clause-long : goal.returns-in-Ended-clause-long
returns-in-Ended-clause-long g c = rw c.judge_ended.ensures (tool_long _ c.in-Ended.ended)

pub returns-in-Ended-clause-reads : goal.returns-in-Ended-clause-reads
returns-in-Ended-clause-reads g c = rw c.judge_ended.ensures (tool_read _ c.in-Ended.ended (rw c.in-Ended.is at c.read_layered.ensures.refused).ends.reads)

pub returns-in-Ended-clause-writes : goal.returns-in-Ended-clause-writes
returns-in-Ended-clause-writes g c = rw c.judge_ended.ensures (tool_written _ c.in-Ended.ended (rw c.in-Ended.is at c.read_layered.ensures.refused).writes)

pub returns-in-Layered-clause-nothing : goal.returns-in-Layered-clause-nothing
returns-in-Layered-clause-nothing g c = rw (rw c.in-Layered.is at c.read_layered.ensures.silent) at c.answer_plans.ensures.nothing

pub returns-in-Layered-clause-long : goal.returns-in-Layered-clause-long
returns-in-Layered-clause-long g c = c.answer_plans.ensures.judges.long

pub returns-in-Layered-clause-reads : goal.returns-in-Layered-clause-reads
returns-in-Layered-clause-reads g c =
    let note = (rw c.in-Layered.is at c.read_layered.ensures.read).note in
    ((λ e. absurd (c.answer_plans.ensures.judges.reads e)), (λ failed. absurd (note.1 failed)))

pub returns-in-Layered-clause-plans_wait : goal.returns-in-Layered-clause-plans_wait
returns-in-Layered-clause-plans_wait g c = λ b known not. absurd (not (
  c.in-Layered.layered,
  known_answer g.T.Read.remaining task_format (ValueOf task_format) _ _ c.in-Layered.layered b (rw c.in-Layered.is at c.read_layered.ensures.read) known,
  (rw c.in-Layered.is at c.read_layered.ensures.layered),
))

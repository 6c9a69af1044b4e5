use Rattle.sas_requests.proofs.Imports.{List, ℕ, [], Bor, ap, Some, Appends, tool_fault, JudgeOut, PlansHeadline, bytes_of, labels_of}
use Rattle.sas_requests.proofs.Endings.{plans_end_well}
use Rattle.sas_requests.proofs.InMemory.{have_bytes, sent_text, reported_none, reported_output}
use Rattle.sas_requests.proofs.slices.judge_slices.Goals as goal

pub returns-in-Ok-clause-output : goal.returns-in-Ok-clause-output
returns-in-Ok-clause-output c =
    let known = ap (λ (s : Bor (List ℕ)). Some s.now) c.new-device.ensures.device in
    reported_output (Some c.new-text.result.device.items) c.judge.new.out.device.items c.into_device.result.items (cc) (cc) (JudgeOut c.args.reasons (labels_of c.args.plans.now) c.args.task.now (bytes_of c.args.plans.now)) c.in-Ok.status
    (plans_end_well c.args.reasons _ (JudgeOut c.args.reasons (labels_of c.args.plans.now) c.args.task.now (bytes_of c.args.plans.now)) c.in-Ok.status (c.in-Ok.ensures.output c.args.task.now (bytes_of c.args.plans.now) known (have_bytes c.args.plans.now)))

pub returns-in-Ok-clause-headline : goal.returns-in-Ok-clause-headline
returns-in-Ok-clause-headline c =
    let known = ap (λ (s : Bor (List ℕ)). Some s.now) c.new-device.ensures.device in
    sent_text (Some c.new-text.result.device.items) c.judge.new.out.device.items c.into_device.result.items (cc) (cc)
    (λ Sent. PlansHeadline c.args.reasons (labels_of c.args.plans.now) c.args.task.now (bytes_of c.args.plans.now) Sent c.in-Ok.status)
    (c.in-Ok.ensures.headline c.args.task.now [] (bytes_of c.args.plans.now) known (have_bytes c.args.plans.now) (cc))

pub returns-in-Err-clause-long : goal.returns-in-Err-clause-long
returns-in-Err-clause-long c = λ long.
    let known = ap (λ (s : Bor (List ℕ)). Some s.now) c.new-device.ensures.device in
    let Out = JudgeOut c.args.reasons (labels_of c.args.plans.now) c.args.task.now (bytes_of c.args.plans.now) in
    reported_none c.args.reasons Out (Appends (Some c.new-text.result.device.items) (Some c.judge.new.out.device.items)) (tool_fault c.in-Err.fault) long
    (c.in-Err.ensures.output c.args.task.now (bytes_of c.args.plans.now) known (have_bytes c.args.plans.now))

use Rattle.sas_tool.specs.Jobs.{Asks, IsRefusedFor}
use Rattle.sas_tool.proofs.Jobbing.{checked, if_ok, memory_refused, once_of}
use Rattle.sas_tool.proofs.arguments.command.Goals as goal

pub returns-in-Ok-clause-taken : goal.returns-in-Ok-clause-taken
returns-in-Ok-clause-taken c = λ name why files call.
    checked name why files c.job_of.result c.with_one_input.result (c.job_of.ensures name why files call.accepted (c.in-Ok.ensures.taken name why files call)) c.with_one_input.ensures

pub returns-in-Ok-clause-only : goal.returns-in-Ok-clause-only
returns-in-Ok-clause-only c =
    let only = c.in-Ok.ensures.only in
    let asks = c.job_of.ensures only.0 only.1 only.2 only.3.accepted only.4 in
    if_ok c.with_one_input.result (Asks only.0 only.1 only.2) _ (IsRefusedFor only.2) (λ job its. (only.0, only.1, only.2, only.3, its))
    (checked only.0 only.1 only.2 c.job_of.result c.with_one_input.result asks c.with_one_input.ensures)

pub returns-in-Ok-clause-once : goal.returns-in-Ok-clause-once
returns-in-Ok-clause-once c = once_of c.job_of.result c.with_one_input.result c.with_one_input.ensures

pub returns-in-Err-clause-taken : goal.returns-in-Err-clause-taken
returns-in-Err-clause-taken c = λ name why files call. memory_refused files c.in-Err.fault (c.in-Err.ensures.taken name why files call)

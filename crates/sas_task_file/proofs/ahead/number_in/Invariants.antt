use Rattle.sas_task_file.proofs.Imports.{◌≡◌, ◌<◌, ◌^◌, take, decimal}
use Rattle.sas_task_file.proofs.ahead.number_in.Given as goal

abbrev pub invariant-loop-at : goal.invariant-loop-at
invariant-loop-at g l = (0 < l.value) × (l.value < 10 ^ l.at) × (take l.at l.fn.bytes ≡ decimal l.value)

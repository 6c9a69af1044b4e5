use Rattle.sas_task_reasons.proofs.GroupReasons.{not_kept_if_fails, fails_if_not_kept, some_first_failure, one_first_failure, some_reason, one_reason}
use Rattle.sas_task_reasons.proofs.laws.reason_laws.Goals as goal

pub returns : goal.returns
returns c = record {
  not_kept = not_kept_if_fails;
  fails = fails_if_not_kept;
  some_first = some_first_failure;
  one_first = one_first_failure;
  some_reason = some_reason;
  one_reason = one_reason;
}

use Rattle.sas_task_reasons.proofs.Imports.{◌≡◌, drop}
use Rattle.sas_answers.specs.GroupWords as spec
use Rattle.sas_task_reasons.proofs.groups.groups_status.Given as goal

-- the groups so far are exclusive
abbrev pub invariant-loop-verdict : goal.invariant-loop-verdict
invariant-loop-verdict l = spec.groups_status l.verdicts ≡ spec.groups_status (drop l.verdict-index l.verdicts)

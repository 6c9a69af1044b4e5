-- No lower rule gives another value.
use Rattle.sas_task_reasons.proofs.Imports.{◌≡◌, ℕ, ◌<◌, false, rule_at}
use Rattle.sas_task_reasons.proofs.OtherGivers.{gives_other}
use Rattle.sas_task_reasons.proofs.giver.other_giver.Given as goal

abbrev pub invariant-loop-other : goal.invariant-loop-other
invariant-loop-other l =
    (lower : ℕ) → lower < l.other → gives_other l.task (rule_at l.task l.rule) (rule_at l.task lower) ≡ false

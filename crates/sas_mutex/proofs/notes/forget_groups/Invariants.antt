-- Nothing is recorded for the groups so far.
use Rattle.sas_mutex.proofs.Imports.{◌≡◌, ◌⊎◌, ℕ, ◌<◌, get_or, length, Nothing, group_note}
use Rattle.sas_mutex.proofs.notes.forget_groups.Given as goal

abbrev pub invariant-loop-group : goal.invariant-loop-group
invariant-loop-group l = record {
  as_many : length l.noted ≡ length l.fn.noted;
  none : (k d : ℕ) → k < l.group-index → group_note l.noted (get_or l.groups k d) ≡ Nothing;
  each : (place : ℕ) → (group_note l.noted place ≡ group_note l.fn.noted place) ⊎ (group_note l.noted place ≡ Nothing);
}

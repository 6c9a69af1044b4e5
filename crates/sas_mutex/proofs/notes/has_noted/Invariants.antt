-- No fact is recorded for the groups so far that are in the family.
use Rattle.sas_mutex.proofs.Imports.{◌≡◌, ℕ, ◌<◌, get_or, IsTrue, Nothing, family_of, group_note}
use Rattle.sas_mutex.proofs.notes.has_noted.Given as goal

abbrev pub invariant-loop-group : goal.invariant-loop-group
invariant-loop-group l = (k d : ℕ) → k < l.group-index → IsTrue (family_of l.kept (get_or l.groups k d))
    → group_note l.noted (get_or l.groups k d) ≡ Nothing

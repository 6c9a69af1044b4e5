-- None of the groups so far that are in the family contains the other fact.
use Rattle.sas_mutex.proofs.Imports.{ℕ, ◌<◌, get_or, IsTrue, Contains, groups_of, family_of}
use Rattle.sas_mutex.proofs.notes.some_has.Given as goal

abbrev pub invariant-loop-group : goal.invariant-loop-group
invariant-loop-group l = (k d : ℕ) → k < l.group-index → IsTrue (family_of l.kept (get_or (groups_of l.index l.fn.fact) k d))
    → Contains (groups_of l.index l.other) (get_or (groups_of l.index l.fn.fact) k d) → ⊥

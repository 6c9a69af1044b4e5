-- The fact is recorded for the groups so far.
use Rattle.sas_mutex.proofs.Imports.{ℕ, ◌<◌, get_or, TakenBySome, NotesForGroup}
use Rattle.sas_mutex.proofs.notes.note_in_groups.Given as goal

abbrev pub invariant-loop-group : goal.invariant-loop-group
invariant-loop-group l = record {
  some : TakenBySome l.groups l.kept l.fact l.fn.noted l.noted;
  all : (k d : ℕ) → k < l.group-index → NotesForGroup l.groups l.kept l.fact l.fn.noted l.noted (get_or l.groups k d);
}

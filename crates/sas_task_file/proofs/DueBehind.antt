-- What is expected after the first lines of a task, by a tracker over them.
use Rattle.sas_task_file.proofs.Imports.{ranges_of, ◌≡◌, ℕ, zero, suc, List, [], ◌∷◌, ◌++◌, length, map, refl, sym, ap, subst, ◌∙◌, slice_get, Some, None, append-nil, map-append, length-map, Parts, WellRanged, cut_at, Place, Due, Mark, TaskLine, task_slot, task_line_bytes, task_layout, slot_of_due, task_marks, IsDue, Tracker, tracker_start, by_count, track_line, track, mark_in, Row, row_at}
use Rattle.sas_task_file.specs.declared.places.Place.TheVariants as place
use Rattle.sas_task_file.specs.declared.marks.Due.TheVariants as due
use Rattle.sas_task_file.specs.declared.marks.Location.TheVariants as at
use Rattle.sas_task_file.proofs.Tracking.{track_marks, IsBehindVariables, Known, Along}
use Rattle.sas_task_file.proofs.TrackedTask.{behind_all, task_scan}
use Rattle.sas_task_file.proofs.WrongWords.{HasBounds}

-- ---- lines in two parts

mark_at_line : (t : Tracker) (before : List TaskLine) (i : TaskLine) (more : List TaskLine) → slice_get (track_marks t (before ++ i ∷ more)) (length before) ≡ Some (mark_in (track t before))
mark_at_line t [] i more = refl
mark_at_line t (j ∷ before) i more = mark_at_line (track_line t j) before i more

no_mark_at_end : (t : Tracker) (items : List TaskLine) → slice_get (track_marks t items) (length items) ≡ None
no_mark_at_end t [] = refl
no_mark_at_end t (j ∷ items) = no_mark_at_end (track_line t j) items

along_rest : (ranges : List ℕ) (t : Tracker) (before more : List TaskLine) → Along ranges t (before ++ more) → Along ranges (track t before) more
along_rest ranges t [] more h = h
along_rest ranges t (i ∷ before) more h = along_rest ranges (track_line t i) before more h.2

along_known : (ranges : List ℕ) (t : Tracker) (items : List TaskLine) → Along ranges t items → Known ranges t
along_known ranges t [] h = h
along_known ranges t (i ∷ items) h = h.0

-- ---- after the first lines of a task

-- nothing is expected after the last line
abbrev pub end_mark : Mark
end_mark = record { at = at.End; due = due.Nothing }

-- all lines have been read
pub record IsAtEnd (t : Tracker) : Type 0 where
  pub place : t.place ≡ place.Rules
  pub left : t.left ≡ 0
  pub mark : mark_in t ≡ end_mark

module _ (v : Parts) (good : WellRanged v) where
  along_behind : (before more : List TaskLine) → task_layout v ≡ before ++ more → Along (ranges_of v.variables) (track tracker_start before) more
  along_behind before more e = along_rest (ranges_of v.variables) tracker_start before more (subst (Along (ranges_of v.variables) tracker_start) e (task_scan v good).along)

  -- the mark of the task there
  pub due_behind : (before : List TaskLine) (i : TaskLine) (more : List TaskLine) → task_layout v ≡ before ++ i ∷ more → slice_get (task_marks v) (length before) ≡ Some (mark_in (track tracker_start before))
  due_behind before i more e =
      ap (λ (x : List Mark). slice_get x (length before)) (sym (task_scan v good).marks)
      ∙ ap (λ (x : List TaskLine). slice_get (track_marks tracker_start x) (length before)) e
      ∙ mark_at_line tracker_start before i more

  -- what is expected belongs to the slot of the line
  pub belongs_behind : (before : List TaskLine) (i : TaskLine) (more : List TaskLine) → task_layout v ≡ before ++ i ∷ more → slot_of_due (mark_in (track tracker_start before)).due ≡ task_slot i
  belongs_behind before i more e = (along_behind before (i ∷ more) e).1

  -- all ranges are known, both at lines with facts and after all lines
  pub ranges_behind : (before more : List TaskLine) → task_layout v ≡ before ++ more → IsBehindVariables (track tracker_start before).place → (track tracker_start before).ranges ≡ map (λ x. length x.values) v.variables
  ranges_behind before more e = along_known (ranges_of v.variables) (track tracker_start before) more (along_behind before more e)

  all_behind : (items : List TaskLine) → task_layout v ≡ items → track tracker_start items ≡ behind_all v
  all_behind items e = ap (track tracker_start) (sym e) ∙ (task_scan v good).ends

  -- after all lines nothing is expected
  pub whole_behind : (items : List TaskLine) → task_layout v ≡ items → IsAtEnd (track tracker_start items)
  whole_behind items e =
      let all = all_behind items e in
      record { place = ap (λ (t : Tracker). t.place) all; left = ap (λ (t : Tracker). t.left) all; mark = ap mark_in all }

  -- what the tracker expects is expected
  pub is_due : (begun : List (List ℕ)) (items : List TaskLine) (i : TaskLine) (more : List TaskLine) → map task_line_bytes items ≡ begun → task_layout v ≡ items ++ i ∷ more → IsDue begun (mark_in (track tracker_start items))
  is_due begun items i more s e =
      let long : length items ≡ length begun = sym (length-map items task_line_bytes) ∙ ap length s in
      record {
        begins = (v, map task_line_bytes (i ∷ more), good, ap (map task_line_bytes) e ∙ map-append task_line_bytes items (i ∷ more) ∙ ap (λ (x : List (List ℕ)). x ++ map task_line_bytes (i ∷ more)) s);
        marked = ap (slice_get (task_marks v)) (sym long) ∙ due_behind items i more e;
      }

-- facts, heads and effects contain variables and their values
abbrev pub HasFacts : Due → Type 0
HasFacts d = HasBounds (slot_of_due d)

no_facts : (n : ℕ) (a b : Row) → (HasFacts a.due → ⊥) → (HasFacts b.due → ⊥) → HasFacts (by_count n a b).due → ⊥
no_facts zero a b f g h = f h
no_facts (suc n) a b f g h = g h

facts_behind_variables : (p : Place) (t : Tracker) → HasFacts (row_at p t).due → IsBehindVariables p
facts_behind_variables place.VersionBegin t h = h
facts_behind_variables place.VersionNumber t h = h
facts_behind_variables place.VersionEnd t h = h
facts_behind_variables place.MetricBegin t h = h
facts_behind_variables place.MetricNumber t h = h
facts_behind_variables place.MetricEnd t h = h
facts_behind_variables place.VariableCount t h = h
facts_behind_variables place.Variables t h = no_facts t.left _ _ (λ x. x) (λ x. x) h
facts_behind_variables place.VariableName t h = h
facts_behind_variables place.VariableLayer t h = h
facts_behind_variables place.VariableRange t h = h
facts_behind_variables place.VariableValues t h = no_facts t.more _ _ (λ x. x) (λ x. x) h
facts_behind_variables _ t h = tt

-- such lines are expected only after the variables
pub speaks_behind_variables : (t : Tracker) → HasFacts (mark_in t).due → IsBehindVariables t.place
speaks_behind_variables t h = facts_behind_variables t.place t h

-- ---- what is expected, by the tracker

-- A task begins with these lines, and a line follows. What is expected there is the mark of a
-- tracker over them.
pub record Standing (begun : List (List ℕ)) (m : Mark) : Type 0 where
  pub task : Parts
  pub good : WellRanged task
  pub items : List TaskLine
  pub item : TaskLine
  pub more : List TaskLine
  pub layout : task_layout task ≡ items ++ item ∷ more
  pub spells : map task_line_bytes items ≡ begun
  pub marked : m ≡ mark_in (track tracker_start items)

module _ (begun : List (List ℕ)) (m : Mark) (v : Parts) (good : WellRanged v) where
  standing_at : (items after : List TaskLine) → task_layout v ≡ items ++ after → map task_line_bytes items ≡ begun → slice_get (task_marks v) (length items) ≡ Some m → Standing begun m
  standing_at items [] e s g =
      let all : task_layout v ≡ items = e ∙ append-nil items in
      let none : slice_get (task_marks v) (length items) ≡ None =
      ap (λ (x : List Mark). slice_get x (length items)) (sym (task_scan v good).marks)
      ∙ ap (λ (x : List TaskLine). slice_get (track_marks tracker_start x) (length items)) all
      ∙ no_mark_at_end tracker_start items in
      absurd cc
  standing_at items (i ∷ more) e s g =
      let there : slice_get (task_marks v) (length items) ≡ Some (mark_in (track tracker_start items)) = due_behind v good items i more e in
      record { task = v; good = good; items = items; item = i; more = more; layout = e; spells = s; marked = cc }

pub standing : (begun : List (List ℕ)) (m : Mark) → IsDue begun m → Standing begun m
standing begun m d =
    let c = cut_at task_line_bytes begun d.begins.1 (task_layout d.begins.0) d.begins.3 in
    let long : length begun ≡ length c.before = ap length (sym c.front_is) ∙ length-map c.before task_line_bytes in
    standing_at begun m d.begins.0 d.begins.2 c.before c.after c.whole c.front_is (ap (slice_get (task_marks d.begins.0)) (sym long) ∙ d.marked)

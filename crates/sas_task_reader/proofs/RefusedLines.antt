-- Why a line is refused: what the machine expects, and which number of the line is wrong.
use Rattle.sas_task_reader.proofs.Imports.{◌≡◌, ◌≢◌, ℕ, List, [], ◌∷◌, ◌++◌, Option, None, refl, sym, ap, subst, ◌∙◌, Parts, WellRanged, Kind, IsBegun, LeadsToEnd, cut_at, after_ends, Mark, WrongWord, Place, IsDue, TaskLine, task_line_bytes, task_layout, task_format, TaskLineFits, HasShape, first_wrong, IsFirstWrong, IsTaskReason, Tracker, tracker_start, track, mark_in, TaskJudge, TaskMachine, mark_of, due_slot, WrongWordIn, table_node, table_start, state_of, HasEnded, LedBy, MachineStopped, end_mark, ranges_behind, is_due, HasFacts, speaks_behind_variables, same_items, IsBehindVariables, same_bounds, SoFar, LineValues, FirstWrong, ranges_of, first_back, IsCounted, count_of, count_at, count_after, counts_behind, is_counted, length}
use Rattle.sas_reader.specs.declared.fault.Kind.TheVariants as kinds
use Rattle.sas_task_file.specs.declared.places.Place.TheVariants as at
use Rattle.sas_task_file.proofs.TaskEnds.{over_if_ended}
use Rattle.sas_task_file.proofs.TaskGrammar.{task_grammar}
use Rattle.sas_task_file.proofs.TableLines.{tracked}

-- ---- a task that begins with the lines

-- a task that begins with these lines and this line
pub record Completed (items : List TaskLine) : Type 0 where
  pub task : Parts
  pub good : WellRanged task
  pub item : TaskLine
  pub more : List TaskLine
  pub layout : task_layout task ≡ items ++ item ∷ more

module _ {K : Type 0} (keeps : List (List ℕ) → SoFar → K → Type 0) (lines : List (List ℕ)) (m : TaskMachine K) (h : LedBy keeps lines m) where
  -- the mark of the machine
  abbrev pub mark_there : Mark
  mark_there = mark_of m.judge

  -- ---- after all lines

  pub mark_at_end : HasEnded m.judge → mark_there ≡ end_mark
  mark_at_end e =
      let j = m.judge in
      ap (λ (p : Place). mark_in (record j.tracker { place = p })) e.0
      ∙ ap (λ (n : ℕ). mark_in (record j.tracker { place = at.Rules; left = n })) e.1

  -- the tracker has followed the lines
  followed : track tracker_start h.leads.items ≡ m.judge.tracker
  followed = tracked h.leads.items table_start (state_of m.judge h.so_far) h.leads.after

  -- the count that the judge has noted
  pub count_there : IsCounted lines (count_of m.judge)
  count_there =
      let x = state_of m.judge h.so_far in
      let f = task_grammar.fillable h.leads.items x h.leads.after in
      let s = task_grammar.sound (h.leads.items ++ f.0) f.1 (after_ends task_format TaskLineFits table_node table_start x f.1 h.leads.items f.0 h.leads.after f.2) in
      let same : count_after h.leads.items ≡ count_of m.judge = ap (λ (t : Tracker). count_at t.place (length t.ranges) (counts_behind h.leads.items)) followed ∙ sym h.counts.here in
      subst (IsCounted lines) same (is_counted f.1 s.0 lines h.leads.items f.0 h.leads.spells (sym s.1))

  module _ (going_on : HasEnded m.judge → ⊥) where
    -- ---- what is expected

    completed_by : (more : List TaskLine) (v : Parts) → LeadsToEnd task_format TaskLineFits table_node (state_of m.judge h.so_far) more v → Completed h.leads.items
    completed_by [] v e = absurd (going_on (over_if_ended (state_of m.judge h.so_far) v e))
    completed_by (i ∷ more) v e =
        let s = task_grammar.sound (h.leads.items ++ i ∷ more) v (after_ends task_format TaskLineFits table_node table_start (state_of m.judge h.so_far) v h.leads.items (i ∷ more) h.leads.after e) in
        record { task = v; good = s.0; item = i; more = more; layout = sym s.1 }

    completed : Completed h.leads.items
    completed = let f = task_grammar.fillable h.leads.items (state_of m.judge h.so_far) h.leads.after in completed_by f.0 f.1 f.2

    pub due_there : IsDue lines mark_there
    due_there =
        let c = completed in
        subst (λ (t : Tracker). IsDue lines (mark_in t)) followed (is_due c.task c.good lines h.leads.items c.item c.more h.leads.spells c.layout)

    -- ---- the reason

    -- if facts are expected, the judge's ranges are those of the variables of any task with these
    -- lines
    ranges_are : (b : IsBegun task_format lines) → HasFacts mark_there.due → m.judge.tracker.ranges ≡ ranges_of b.0.variables
    ranges_are b has =
        let c = completed in
        let cut = cut_at task_line_bytes lines b.1 (task_layout b.0) b.3 in
        let same : cut.before ≡ h.leads.items = same_items b.0 c.task b.2 c.good cut.before cut.after h.leads.items (c.item ∷ c.more) cut.whole c.layout (cut.front_is ∙ sym h.leads.spells) in
        let behind : IsBehindVariables m.judge.tracker.place = speaks_behind_variables (m.judge.tracker) has in
        let is : track tracker_start cut.before ≡ m.judge.tracker = ap (track tracker_start) same ∙ followed in
        let there : IsBehindVariables (track tracker_start cut.before).place = subst (λ (t : Tracker). IsBehindVariables t.place) (sym is) behind in
        sym (ap (λ (t : Tracker). t.ranges) is)
        ∙ ranges_behind b.0 b.2 cut.before cut.after cut.whole there

    module _ (found : List ℕ) where
      -- the number that the judge found is the first wrong one
      first_there : (word : Option WrongWord) → FirstWrong m.judge.tracker.ranges (due_slot m.judge) found word → HasShape (due_slot m.judge) found → IsFirstWrong lines mark_there found word
      first_there word f shape =
          let due = due_there in
          let bounds = same_bounds m.judge.tracker.ranges (ranges_of due.begins.0.variables) (due_slot m.judge) shape.0 shape.1 (ranges_are due.begins) in
          record { due = due; shape = shape; first = first_back m.judge.tracker.ranges (due_slot m.judge) found shape.0 word shape.1 (shape.2, shape.3) f ∙ ap (first_wrong 1) bounds }

      -- if the machine hasn't ended, what it knows is the reason
      pub task_reason : (kind : Kind) (word : Option WrongWord) → kind ≢ kinds.Trailing → (kind ≡ kinds.Value → HasShape (due_slot m.judge) found) → WrongWordIn m.judge found kind word → IsTaskReason kind lines found mark_there word
      task_reason kinds.Trailing word apart shape is = absurd (apart refl)
      task_reason kinds.Value word apart shape is = first_there word (is.of_value refl) (shape refl)
      task_reason _ word apart shape is = (due_there, is.of_another (λ e. cc))

  -- after the last line nothing is expected
  pub trailing_reason : (found : List ℕ) → HasEnded m.judge → IsTaskReason kinds.Trailing lines found mark_there None
  trailing_reason found e = (mark_at_end e, refl)

-- ---- a machine that refused a line

module _ {K : Type 0} (keeps : List (List ℕ) → SoFar → K → Type 0) (lines : List (List ℕ)) (m n : TaskMachine K) (line : List ℕ) (kind : Kind) where
  as_before : (said : LineValues) (word : Option WrongWord) → LedBy keeps lines m → LedBy keeps lines (record { judge = record m.judge { said = said }; kept = m.kept; wrong = word })
  as_before said word h = record { so_far = h.so_far; leads = h.leads; kept = h.kept; counts = record { section = h.counts.section; here = h.counts.here } }

  -- it is led by the same lines
  pub led_still : MachineStopped m line kind n → LedBy keeps lines m → LedBy keeps lines n
  led_still s h =
      subst (λ (k : K). LedBy keeps lines (record { judge = n.judge; kept = k; wrong = n.wrong })) (sym s.kept)
      (subst (λ (j : TaskJudge). LedBy keeps lines (record { judge = j; kept = m.kept; wrong = n.wrong })) (sym s.judge) (as_before n.judge.said n.wrong h))

  -- it has ended exactly if it had before
  pub ended_still : MachineStopped m line kind n → HasEnded n.judge → HasEnded m.judge
  ended_still s e = let before : HasEnded (record m.judge { said = n.judge.said }) = subst HasEnded s.judge e in (before.0, before.1)

  -- a line has the shape of what it expects if it had
  pub shape_still : MachineStopped m line kind n → HasShape (due_slot m.judge) line → HasShape (due_slot n.judge) line
  shape_still s h =
      let before : HasShape (due_slot (record m.judge { said = n.judge.said })) line = (h.0, h.1, h.2, h.3) in
      subst (λ (j : TaskJudge). HasShape (due_slot j) line) (sym s.judge) before

  -- it knows which number is wrong
  pub wrong_still : MachineStopped m line kind n → WrongWordIn n.judge line kind n.wrong
  wrong_still s =
      let there : WrongWordIn (record m.judge { said = n.judge.said }) line kind n.wrong = record { of_value = s.wrong.of_value; of_another = s.wrong.of_another } in
      subst (λ (j : TaskJudge). WrongWordIn j line kind n.wrong) (sym s.judge) there

-- One line by the table of places: it is allowed if it is what is expected, and where it leads.
use Rattle.sas_task_file.proofs.Imports.{◌≡◌, List, [], ◌∷◌, refl, sym, ap, subst, before, OneLine, After, IsAllowed, TaskLine, slot_of_due, task_format, TaskLineFits, Due, track, row_in, TaskState, table_node, node_of_due, state_after, test_of_due}
use Rattle.sas_task_file.specs.declared.marks.Due.TheVariants as due
use Rattle.sas_task_file.proofs.TaskEnds.{IsOver, over_if_nothing, ends_with}

-- ---- one line

-- before a line, the node has the slot and the test of what is expected
pub due_node : (d : Due) (x : TaskState) → (d ≡ due.Nothing → ⊥) → node_of_due d x ≡ before (slot_of_due d) (test_of_due x.tracker.ranges d) (state_after x)
due_node due.Nothing x some = absurd (some refl)
due_node _ x some = refl

abbrev pub TableLine : TaskState → TaskLine → (TaskState → Type 0) → Type 0
TableLine x i Then = OneLine task_format TaskLineFits (table_node x) i Then

-- the line is what is expected
abbrev pub IsDueLine : TaskState → TaskLine → Type 0
IsDueLine x i = IsAllowed task_format TaskLineFits (slot_of_due (row_in x.tracker).due) (test_of_due x.tracker.ranges (row_in x.tracker).due) i

module _ (x : TaskState) (i : TaskLine) where
  pub table_line : (Then : TaskState → Type 0) → (IsOver x.tracker → ⊥) → IsDueLine x i → Then (state_after x i) → TableLine x i Then
  table_line Then some allowed then =
      subst (λ n. OneLine task_format TaskLineFits n i Then) (sym (due_node (row_in x.tracker).due x (λ e. some (over_if_nothing x.tracker e)))) (allowed, then)

  pub not_over : (Then : TaskState → Type 0) → TableLine x i Then → IsOver x.tracker → ⊥
  not_over Then h over = subst (λ n. OneLine task_format TaskLineFits n i Then) (ends_with x over) h

  pub of_table_line : (Then : TaskState → Type 0) → TableLine x i Then → IsDueLine x i × Then (state_after x i)
  of_table_line Then h =
      subst (λ n. OneLine task_format TaskLineFits n i Then) (due_node (row_in x.tracker).due x (λ e. not_over Then h (over_if_nothing x.tracker e))) h

-- ---- the tracker

-- lines lead the tracker as they lead the state
pub tracked : (items : List TaskLine) (x y : TaskState) → After task_format TaskLineFits table_node x items y → track x.tracker items ≡ y.tracker
tracked [] x y h = ap (λ (z : TaskState). z.tracker) h
tracked (i ∷ items) x y h = tracked items (state_after x i) y (of_table_line x i (λ z. After task_format TaskLineFits table_node z items y) h).1

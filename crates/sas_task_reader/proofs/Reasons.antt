-- A task file is refused for the reason that its machine knows.
use Rattle.sas_task_reader.proofs.Imports.{◌≡◌, ◌≢◌, ℕ, List, Option, None, sym, subst, ◌∙◌, Parts, Kind, Node, ended, before, Rejects, behind_line, behind_text, at_end, Mark, WrongWord, table_node, TaskLine, TaskSlot, word_slot, name_slot, number_slot, signed_slot, fact_slot, effect_slot, head_slot, HasShape, NumbersKind, no_shape, no_value, TaskKind, task_format, TaskLineFits, StandsBehind, task_behavior, TaskState, node_of_due, Due, row_in, slot_of_due, IsTaskReason, shape_of_value, SoFar, FirstWrong, TaskMachine, mark_of, due_slot, WrongWordIn, state_of, ◌↔◌, IsTrue, IfSome, IfNone, IsSomeAnd, Excerpt, IsFoundOf, Kept, ap, kept_bytes, without_return, EndsUnended, LedBy, count_of, IsLastLine, IsCounted, HasReason, TaskRefusal}
use Rattle.sas_task_reader.proofs.LastLines.{unended}
use Rattle.sas_task_reader.proofs.RefusedLines.{count_there, task_reason, trailing_reason, led_still, ended_still, shape_still, wrong_still}
use Rattle.sas_reader.specs.declared.fault.Kind.TheVariants as kinds
use Rattle.sas_task_file.specs.declared.marks.Due.TheVariants as due

-- ---- a refused line isn't after the last line

numbers_apart : (slot : TaskSlot) (line : List ℕ) (k : Kind) → NumbersKind slot line k → k ≢ kinds.Trailing
numbers_apart slot line k (no_shape h) = λ e. cc
numbers_apart slot line k (no_value h) = λ e. cc

kind_apart : (slot : TaskSlot) (line : List ℕ) (k : Kind) → TaskKind slot line k → k ≢ kinds.Trailing
kind_apart (word_slot w) line k h = λ e. let other : kinds.Keyword ≡ kinds.Trailing = sym h ∙ e in cc
kind_apart name_slot line k h = λ e. let other : kinds.Name ≡ kinds.Trailing = sym h ∙ e in cc
kind_apart number_slot line k h = numbers_apart number_slot line k h
kind_apart signed_slot line k h = numbers_apart signed_slot line k h
kind_apart fact_slot line k h = numbers_apart fact_slot line k h
kind_apart effect_slot line k h = numbers_apart effect_slot line k h
kind_apart head_slot line k h = numbers_apart head_slot line k h

rejects_apart : (n : Node TaskState Parts TaskLine TaskSlot) (line : List ℕ) (k : Kind) → Rejects task_format TaskLineFits n line k → k ≢ kinds.Trailing
rejects_apart (ended v) line k r = absurd r
rejects_apart (before s ok next) line k r = kind_apart s line k r.kind

-- a line that is refused for a value has the shape of what is expected
rejects_shape : (d : Due) (x : TaskState) (line : List ℕ) (k : Kind) → Rejects task_format TaskLineFits (node_of_due d x) line k → k ≡ kinds.Value → HasShape (slot_of_due d) line
rejects_shape due.Nothing x line k r is = absurd r
rejects_shape d x line k r is = shape_of_value (slot_of_due d) line k r.kind is

-- ---- the reason

module _ {K : Type 0} (keeps : List (List ℕ) → SoFar → K → Type 0) (lines : List (List ℕ)) (text : List ℕ) (kind : Kind) (m : TaskMachine K) (mark : Mark) (word : Option WrongWord)
    (marks : mark ≡ mark_of m.judge) (of_value : kind ≡ kinds.Value → word ≡ m.wrong) (of_another : kind ≢ kinds.Value → word ≡ None) where
  -- the mark of the machine
  with_mark : IsTaskReason kind lines text (mark_of m.judge) word → IsTaskReason kind lines text mark word
  with_mark h = subst (λ (k : Mark). IsTaskReason kind lines text k word) (sym marks) h

  pub reported_reason : StandsBehind (task_behavior keeps) lines text kind m → IsTaskReason kind lines text mark word
  reported_reason (behind_line old led going_on rejects stopped) =
      let still = led_still keeps lines old m text kind stopped led in
      let known = wrong_still keeps lines old m text kind stopped in
      let is : WrongWordIn m.judge text kind word = record { of_value = λ v. subst (FirstWrong m.judge.tracker.ranges (due_slot m.judge) text) (sym (of_value v)) (known.of_value v); of_another = of_another } in
      let x = state_of old.judge led.so_far in
      let shape : kind ≡ kinds.Value → HasShape (due_slot m.judge) text = λ v. shape_still keeps lines old m text kind stopped (rejects_shape (row_in old.judge.tracker).due x text kind (rejects led.so_far) v) in
      with_mark (task_reason keeps lines m still (λ e. going_on (ended_still keeps lines old m text kind stopped e)) text kind word (rejects_apart (table_node x) text kind (rejects led.so_far)) shape is)
  reported_reason (behind_text led ends trailing) =
      let none : word ≡ None = of_another (λ v. let other : kinds.Trailing ≡ kinds.Value = sym trailing ∙ v in cc) in
      with_mark
      (subst (λ (w : Option WrongWord). IsTaskReason kind lines text (mark_of m.judge) w) (sym none)
      (subst (λ (k : Kind). IsTaskReason k lines text (mark_of m.judge) None) (sym trailing)
      (trailing_reason keeps lines m led text ends)))
  reported_reason (at_end led goes_on is_end) =
      let apart : kind ≢ kinds.Value = λ v. let other : kinds.End ≡ kinds.Value = sym is_end ∙ v in cc in
      let is : WrongWordIn m.judge text kind word = record { of_value = λ v. absurd (apart v); of_another = of_another } in
      with_mark (task_reason keeps lines m led goes_on text kind word (λ t. let other : kinds.End ≡ kinds.Trailing = sym is_end ∙ t in cc) (λ v. absurd (apart v)) is)

  -- the machine is still led by the lines
  stands_led : StandsBehind (task_behavior keeps) lines text kind m → LedBy keeps lines m
  stands_led (behind_line old led going_on rejects stopped) = led_still keeps lines old m text kind stopped led
  stands_led (behind_text led ends trailing) = led
  stands_led (at_end led goes_on is_end) = led

  -- the refusal has the reason, the count, and whether only a line end is missing
  pub reported : {L : Type 0} (now : L → List ℕ) (last : Option L) (found : Excerpt) (r : TaskRefusal) → r.fault.kind ≡ kind → r.mark ≡ mark → r.word ≡ word → r.count ≡ count_of m.judge
      → IfSome last (λ l. IsLastLine m.judge (now l)) → IfNone last ((line : List ℕ) → IsLastLine m.judge line → ⊥) → (IsTrue r.lacks_line_end ↔ (kind ≡ kinds.End) × IsSomeAnd last (λ l. without_return (kept_bytes found) ≡ now l))
      → StandsBehind (task_behavior keeps) lines text kind m → IsFoundOf kind text found → HasReason lines text r
  reported now last found r same is_mark is_word counts some none lacks stands kept =
      let led = stands_led stands in
      let why : IsTaskReason r.fault.kind lines text r.mark r.word = rw (same, is_mark, is_word) (reported_reason stands) in
      let ends : IsTrue r.lacks_line_end ↔ EndsUnended task_format r.fault.kind lines text = rw same (unended keeps lines m led text found (ap (λ (k : Kept). k.front) kept.kept) now kind (IsTrue r.lacks_line_end) last some none lacks) in
      record {
        reason = why;
        counted = subst (IsCounted lines) (sym counts) (count_there keeps lines m led);
        unended = ends;
      }

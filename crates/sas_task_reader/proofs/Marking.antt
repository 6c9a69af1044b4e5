-- The first wrong number of a line, by the row of the judge.
use Rattle.sas_task_reader.proofs.Imports.{◌≡◌, ℕ, List, Option, Some, None, Result, refl, subst, none-some, IfOk, Due, Row, WrongWord, slot_of_due, TaskLine, fact, effect, head, task_slot, first_wrong, line_bounds, HasFacts, HasBounds, HasWrong, FirstWrong, TaskJudge, due_slot, IsRow}
use Rattle.sas_task_file.specs.declared.marks.Due.TheVariants as due

-- ---- numbers that are wrong

wrong_speaks : (ranges : List ℕ) (i : TaskLine) (w : WrongWord) → first_wrong 1 (line_bounds ranges i) ≡ Some w → HasBounds (task_slot i)
wrong_speaks ranges (fact f) w e = tt
wrong_speaks ranges (effect f) w e = tt
wrong_speaks ranges (head var old new) w e = tt
wrong_speaks ranges _ w e = absurd (none-some w e)

-- a number can be wrong only if facts are expected
pub speaks_of_facts : (ranges : List ℕ) (d : Due) (line : List ℕ) (w : WrongWord) → HasWrong ranges (slot_of_due d) line w → HasFacts d
speaks_of_facts ranges d line w h = subst HasBounds h.belongs (wrong_speaks ranges h.item w h.first)

pub quiet : (ranges : List ℕ) (d : Due) (line : List ℕ) → (HasFacts d → ⊥) → FirstWrong ranges (slot_of_due d) line None
quiet ranges d line silent = λ w h. silent (speaks_of_facts ranges d line w h)

-- what is expected there, and so the slot of the line
pub where_due : (j : TaskJudge) (row : Row) (line : List ℕ) (r : Option WrongWord) → IsRow j.tracker row → FirstWrong j.tracker.ranges (slot_of_due row.due) line r → FirstWrong j.tracker.ranges (due_slot j) line r
where_due j row line r h f = subst (λ (x : Row). FirstWrong j.tracker.ranges (slot_of_due x.due) line r) h.is f

pub where_due_if : {E : Type 0} (j : TaskJudge) (row : Row) (line : List ℕ) (r : Result (Option WrongWord) E) → IsRow j.tracker row → IfOk r (FirstWrong j.tracker.ranges (slot_of_due row.due) line) → IfOk r (FirstWrong j.tracker.ranges (due_slot j) line)
where_due_if j row line r h f = subst (λ (x : Row). IfOk r (FirstWrong j.tracker.ranges (slot_of_due x.due) line)) h.is f

pub not_speaks : (d : Due) → (d ≡ due.Fact → ⊥) → (d ≡ due.Head → ⊥) → (d ≡ due.Effect → ⊥) → HasFacts d → ⊥
not_speaks due.Fact f h e s = f refl
not_speaks due.Head f h e s = h refl
not_speaks due.Effect f h e s = e refl
not_speaks _ f h e s = s

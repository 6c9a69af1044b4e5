-- Each fault of a task file has a reason: what is expected there, and which number is wrong, if any.
use Rattle.sas_task_file.proofs.Imports.{ranges_of, ◌≡◌, ℕ, List, [], ◌∷◌, ◌++◌, map, refl, sym, ap, subst, ◌∙◌, Option, None, append-nil, Parts, WellRanged, lines, unfinished, Fault, Kind, lines_of, EndOf, most_bytes, of_line, of_byte, of_end, cut_at, Mark, WrongWord, TaskLine, TaskSlot, word_slot, name_slot, number_slot, signed_slot, fact_slot, effect_slot, head_slot, task_line_bytes, task_layout, NumbersKind, no_shape, no_value, TaskKind, task_texts, task_format, IsDue, slot_of_due, tracker_start, track, mark_in, first_wrong, line_bounds, IsTaskReason, SomeTaskReason}
use Rattle.sas_task_file.proofs.DueBehind.{end_mark, is_due}
use Rattle.sas_task_file.proofs.MarkLaws.{some_due}

-- a text is refused for a reason
abbrev HasReason : Kind → List (List ℕ) → List ℕ → Type 0
HasReason kind begun found = (m : Mark) × (w : Option WrongWord) × IsTaskReason kind begun found m w

-- ---- a line that isn't allowed

numbers_reason : (kind : Kind) (begun : List (List ℕ)) (found : List ℕ) (m : Mark) → IsDue begun m → (s : TaskSlot) → slot_of_due m.due ≡ s → NumbersKind s found kind → HasReason kind begun found
numbers_reason kind begun found m d s e (no_shape h) = (m, None, (d, refl))
numbers_reason kind begun found m d s e (no_value h) = (m, first_wrong 1 (line_bounds (ranges_of d.begins.0.variables) h.0), record { due = d; shape = (h.0, h.1 ∙ sym e, h.2, h.3); first = refl })

line_reason : (kind : Kind) (begun : List (List ℕ)) (found : List ℕ) (m : Mark) → IsDue begun m → (s : TaskSlot) → slot_of_due m.due ≡ s → TaskKind s found kind → HasReason kind begun found
line_reason kind begun found m d (word_slot w) e k = subst (λ (x : Kind). HasReason x begun found) (sym k) (m, None, (d, refl))
line_reason kind begun found m d name_slot e k = subst (λ (x : Kind). HasReason x begun found) (sym k) (m, None, (d, refl))
line_reason kind begun found m d number_slot e k = numbers_reason kind begun found m d number_slot e k
line_reason kind begun found m d signed_slot e k = numbers_reason kind begun found m d signed_slot e k
line_reason kind begun found m d fact_slot e k = numbers_reason kind begun found m d fact_slot e k
line_reason kind begun found m d effect_slot e k = numbers_reason kind begun found m d effect_slot e k
line_reason kind begun found m d head_slot e k = numbers_reason kind begun found m d head_slot e k

-- ---- an early end

module _ (bytes : List ℕ) (f : Fault) (h : EndOf task_format most_bytes bytes f) where
  -- some task that begins with the lines of the bytes has more
  more_due : (v : Parts) → WellRanged v → (items after : List TaskLine) → task_layout v ≡ items ++ after → map task_line_bytes items ≡ lines bytes → (m : Mark) × IsDue (lines bytes) m
  more_due v good items [] e s =
      let all : lines_of task_texts v ≡ lines bytes = ap (map task_line_bytes) (e ∙ append-nil items) ∙ s in
      absurd (h.none v (record { good = good; lines = sym all; rest = h.live.whole v good all }))
  more_due v good items (i ∷ after) e s = (mark_in (track tracker_start items), is_due v good (lines bytes) items i after s e)

  end_reason : HasReason f.kind (lines bytes) (unfinished bytes)
  end_reason =
      let b = h.live.begun in
      let c = cut_at task_line_bytes (lines bytes) b.1 (task_layout b.0) b.3 in
      let m = more_due b.0 b.2 c.before c.after c.whole c.front_is in
      subst (λ (x : Kind). HasReason x (lines bytes) (unfinished bytes)) (sym h.kind) (m.0, None, (m.1, refl))

-- ---- each fault

pub some_task_reason : SomeTaskReason
some_task_reason bytes f begun found (of_line h a t s n k) = let m = some_due begun s n in line_reason f.kind begun found m.0 m.1 s m.2 k
some_task_reason bytes f begun found (of_byte h a t v r k) = subst (λ (x : Kind). HasReason x begun found) (sym k) (end_mark, None, (refl, refl))
some_task_reason bytes f begun found (of_end h a t) = subst (λ (x : List (List ℕ)). HasReason f.kind x found) (sym a) (subst (λ (x : List ℕ). HasReason f.kind (lines bytes) x) (sym t) (end_reason bytes f h))

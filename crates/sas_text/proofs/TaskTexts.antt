-- The text of lines of a task file, part by part.
use Rattle.sas_text.proofs.Imports.{◌≡◌, ℕ, List, [], ◌∷◌, ◌++◌, length, map, refl, sym, ap, ◌∙◌, append_assoc, Result, Ok, Err, flat_map, OnOk, flat_map-append, map-append, decimal, Effect, signed_decimal, joined, TaskLine, word, effect, head, fact_words, task_line_bytes, single_line, between, text_of, spaced, zero, suc, ◌<◌, get_or, append-nil, arith, take}

-- lines one after another
pub text_of_append : (a b : List TaskLine) → text_of (a ++ b) ≡ text_of a ++ text_of b
text_of_append a b = ap (flat_map (λ (line : List ℕ). line ++ 10 ∷ [])) (map-append task_line_bytes a b) ∙ flat_map-append (λ (line : List ℕ). line ++ 10 ∷ []) (map task_line_bytes a) (map task_line_bytes b)

-- lines appended to lines
pub lines_after : (before middle after : List ℕ) (first others : List TaskLine) → middle ≡ before ++ text_of first → after ≡ middle ++ text_of others → after ≡ before ++ text_of (first ++ others)
lines_after before middle after first others e f = f ∙ ap (λ (x : List ℕ). x ++ text_of others) e ∙ append_assoc before (text_of first) (text_of others) ∙ ap (λ (x : List ℕ). before ++ x) (sym (text_of_append first others))

-- the same for a call that may be out of memory
lines_on_ok : {E : Type 0} (result : Result (Unit {0}) E) (before middle after : List ℕ) (first others : List TaskLine) → middle ≡ before ++ text_of first → OnOk result (after ≡ middle ++ text_of others) → OnOk result (after ≡ before ++ text_of (first ++ others))
lines_on_ok (Ok u) before middle after first others e f = lines_after before middle after first others e f
lines_on_ok (Err u) before middle after first others e f = tt

-- lines appended between their first and their last word
pub between_on_ok : {E : Type 0} (result : Result (Unit {0}) E) (before start middle after : List ℕ) (first : List ℕ) (lines : List TaskLine) (last : List ℕ) → start ≡ before ++ text_of (single_line word first) → middle ≡ start ++ text_of lines → OnOk result (after ≡ middle ++ text_of (single_line word last)) → OnOk result (after ≡ before ++ text_of (between first lines last))
between_on_ok result before start middle after first lines last e f g = lines_on_ok result before middle after (single_line word first ++ lines) (single_line word last) (lines_after before start middle (single_line word first) lines e f) g

-- the lines of one item more
pub lines_more : {X A : Type 0} (f : X → List A) (items : List X) (k : ℕ) (item : X) → k < length items → item ≡ get_or items k item → flat_map f (take (suc k) items) ≡ flat_map f (take k items) ++ f item
lines_more f [] k item below is = absurd (omega arith)
lines_more f (x ∷ items) zero item below is = append-nil (f x) ∙ ap f (sym is)
lines_more f (x ∷ items) (suc k) item below is = ap (λ rest. f x ++ rest) (lines_more f items k item (omega arith) is) ∙ sym (append_assoc (f x) (flat_map f (take k items)) (f item))

-- a word before other words
joined_first : (first : List ℕ) (words : List (List ℕ)) (next : List ℕ) (more : List (List ℕ)) → joined (first ∷ words ++ next ∷ more) ≡ first ++ 32 ∷ joined (words ++ next ∷ more)
joined_first first [] next more = refl
joined_first first (w ∷ words) next more = refl

-- joined words are the first words, each followed by a space, and the joined other words
joined_spaced : (words : List (List ℕ)) (next : List ℕ) (more : List (List ℕ)) → joined (words ++ next ∷ more) ≡ spaced words ++ joined (next ∷ more)
joined_spaced [] next more = refl
joined_spaced (w ∷ words) next more = joined_first w words next more ∙ ap (λ (x : List ℕ). w ++ 32 ∷ x) (joined_spaced words next more) ∙ sym (simp append_assoc)

-- the line of an effect, appended as the number of its conditions, a space, its conditions, each
-- followed by a space, and its head
effect_after : (before counted spaced_count conditions after : List ℕ) (e : Effect) → counted ≡ before ++ decimal (length e.conditions) → spaced_count ≡ counted ++ 32 ∷ [] → conditions ≡ spaced_count ++ spaced (flat_map fact_words e.conditions) → after ≡ conditions ++ text_of (head e.var e.old e.new ∷ []) → after ≡ before ++ text_of (single_line effect e)
effect_after before counted spaced_count conditions after e p q r s =
    let count = decimal (length e.conditions) in
    let facts = flat_map fact_words e.conditions in
    let last = text_of (head e.var e.old e.new ∷ []) in
    s ∙ ap (λ (x : List ℕ). x ++ last) (r ∙ ap (λ (x : List ℕ). x ++ spaced facts) (q ∙ ap (λ (x : List ℕ). x ++ 32 ∷ []) p))
    ∙ sym (rw (joined_spaced (count ∷ facts) (decimal e.var) (signed_decimal e.old ∷ decimal e.new ∷ [])) (simp append_assoc))

pub effect_on_ok : {E : Type 0} (result : Result (Unit {0}) E) (before counted spaced_count conditions after : List ℕ) (e : Effect) → counted ≡ before ++ decimal (length e.conditions) → spaced_count ≡ counted ++ 32 ∷ [] → conditions ≡ spaced_count ++ spaced (flat_map fact_words e.conditions) → OnOk result (after ≡ conditions ++ text_of (head e.var e.old e.new ∷ [])) → OnOk result (after ≡ before ++ text_of (single_line effect e))
effect_on_ok (Ok u) before counted spaced_count conditions after e p q r s = effect_after before counted spaced_count conditions after e p q r s
effect_on_ok (Err u) before counted spaced_count conditions after e p q r s = tt

pub ruleset texts = (text_of_append, lines_after)

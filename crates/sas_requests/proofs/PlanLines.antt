-- What is printed of each plan is one line, and a task is refused by one.
use Rattle.sas_requests.proofs.Imports.{slice_index_or, lines, ◌≡◌, ℕ, zero, suc, ◌<◌, List, [], ◌∷◌, ◌++◌, length, get_or, codes, decimal, append_assoc, refl, sym, ap, subst, ◌∙◌, arith, inl, inr, Some, Result, Ok, Err, flat_map, AllByRecursion, get_or-append, Parts, PlanParts, LayerFault, lines, text, Plain, lines-append, lines-text, unfinished-text, Fault, IsPlain, plain, plain-decimal, IsLabel, plain-append, Output, VerdictAnswer, layers_refusal, layer_words, layers_line, fault_words, invalid_line, No, VerdictOut, IsAnswerOrRefusal, TaskOut, UnlayeredAnswer, plain_refusal, refusal, refusal_line, word_of, worded}
use Rattle.sas_requests.proofs.PlainLines.{file_words, file_plain, kind_plain, layer_plain, invalid_plain}
use Rattle.sas_requests.proofs.LastBytes.{EndsInLetter, letter_behind, kind_letter, layer_letter}

-- the line with this number, from 0, and its end
abbrev pub line_of : List ℕ → ℕ → List ℕ
line_of bytes number = slice_index_or (lines bytes) number [] ++ codes "\n"

-- the bytes are a line with its end
pub record IsLine (bytes : List ℕ) : Type 0 where
  pub line : List ℕ
  pub plain : IsPlain line
  pub is : bytes ≡ line ++ 10 ∷ []

-- ---- the verdict on a plan

pub valid_plain : (steps cost : ℕ) → IsPlain (codes "plan valid: " ++ decimal steps ++ codes " steps, cost " ++ decimal cost)
valid_plain steps cost = grind (arith, plain-append, codes, decimal, plain-decimal)

answer_line : (p : Parts) (plan : PlanParts) (o : Output) → VerdictAnswer p plan o → IsLine o.text
answer_line p plan o (inl (valid, is)) = record {
  line = codes "plan valid: " ++ decimal (length plan.steps) ++ codes " steps, cost " ++ decimal plan.cost;
  plain = valid_plain (length plan.steps) plan.cost;
  is = ap (λ (x : Output). x.text) is;
}
answer_line p plan o (inr (fault, is_fault, is)) =
    let w = worded (fault_words plan.cost fault) invalid_line o is in
    record { line = codes "plan invalid: " ++ w.said; plain = invalid_plain plan.cost fault w.said w.among; is = w.text }

reading_line : (p : Parts) (o : Output) (r : Result PlanParts Fault) → IsAnswerOrRefusal (codes "plan") (VerdictAnswer p) r (Some o) → IsLine o.text
reading_line p o (Ok plan) (answer, verdict, is) = let same : answer ≡ o = cc in subst (λ (x : Output). IsLine x.text) same (answer_line p plan answer verdict)
reading_line p o (Err f) is =
    let w = worded (word_of f.kind) (refusal_line (codes "plan") f.line) o (sym is) in
    record { line = file_words (codes "plan") f.line w.said; plain = file_plain (codes "plan") f.line w.said refl (kind_plain f.kind w.said w.among); is = w.text }

pub verdict_line : (p : Parts) (c : List ℕ) (o : Output) → VerdictOut VerdictAnswer p c (Some o) → IsLine o.text
verdict_line p c o out = reading_line p o out.0 out.2

-- with a label in front
pub labelled_line : (label text : List ℕ) → IsLabel label → IsLine text → IsLine (label ++ codes ": " ++ text)
labelled_line label text is_label l = record {
  line = label ++ codes ": " ++ l.line;
  plain = plain-append (label ++ codes ": ") l.line (plain-append label (codes ": ") is_label refl) l.plain;
  is = ap (λ (x : List ℕ). label ++ codes ": " ++ x) l.is ∙ sym (append_assoc (label ++ codes ": ") l.line (10 ∷ []));
}

-- ---- the lines of many texts

module _ {A : Type 0} (text_of : A → List ℕ) (none : A) where
  -- lines that are printed of these items
  record AreLines (all : List A) : Type 0 where
    are : List (List ℕ)
    many : length are ≡ length all
    each : AllByRecursion Plain are
    whole : flat_map text_of all ≡ text are
    at : (k : ℕ) → k < length all → get_or are k [] ++ 10 ∷ [] ≡ text_of (get_or all k none)

  at_more : (line : List ℕ) (are : List (List ℕ)) (a : A) (all : List A) → line ++ 10 ∷ [] ≡ text_of a → ((k : ℕ) → k < length all → get_or are k [] ++ 10 ∷ [] ≡ text_of (get_or all k none))
      → (k : ℕ) → k < length (a ∷ all) → get_or (line ∷ are) k [] ++ 10 ∷ [] ≡ text_of (get_or (a ∷ all) k none)
  at_more line are a all here later zero less = here
  at_more line are a all here later (suc k) less = later k (omega arith)

  lines_of : (all : List A) → ((k : ℕ) → k < length all → IsLine (text_of (get_or all k none))) → AreLines all
  lines_of [] h = record { are = []; many = refl; each = tt; whole = refl; at = λ k less. absurd (omega arith) }
  lines_of (a ∷ all) h =
      let first : IsLine (text_of a) = h 0 (omega arith) in
      let rest = lines_of all (λ k less. h (suc k) (omega arith)) in
      record {
        are = first.line ∷ rest.are;
        many = ap suc rest.many;
        each = (plain first.line first.plain, rest.each);
        whole = ap (λ (x : List ℕ). x ++ flat_map text_of all) first.is ∙ ap (λ (x : List ℕ). (first.line ++ 10 ∷ []) ++ x) rest.whole;
        at = at_more first.line rest.are a all (sym first.is) rest.at;
      }

  -- line K is the text of item K
  pub line_at : (all : List A) (behind : List ℕ) (k : ℕ) → ((i : ℕ) → i < length all → IsLine (text_of (get_or all i none))) → k < length all → line_of (flat_map text_of all ++ behind) k ≡ text_of (get_or all k none)
  line_at all behind k h less =
      let ls = lines_of all h in
      let split : lines (flat_map text_of all ++ behind) ≡ ls.are ++ lines behind =
      ap (λ (x : List ℕ). lines (x ++ behind)) ls.whole ∙ lines-append (text ls.are) behind ∙ ap (λ (x : List ℕ). lines (text ls.are) ++ lines (x ++ behind)) (unfinished-text ls.are)
      ∙ ap (λ (x : List (List ℕ)). x ++ lines behind) (lines-text ls.are ls.each) in
      ap (λ (x : List (List ℕ)). get_or x k [] ++ 10 ∷ []) split
      ∙ ap (λ (x : List ℕ). x ++ 10 ∷ []) (get_or-append ls.are (lines behind) [] k (omega (arith, ls.many)))
      ∙ ls.at k less

-- ---- a refusal of the task

-- the text is one line, which ends in a letter
pub record IsRefusal (o : Output) : Type 0 where
  pub line : List ℕ
  pub plain : IsPlain line
  pub is : o.text ≡ line ++ 10 ∷ []
  pub letter : EndsInLetter line
  pub status : o.status ≡ No

file_refusal : (f : Fault) (o : Output) → refusal (codes "task") f ≡ Some o → IsRefusal o
file_refusal f o is =
    let w = worded (word_of f.kind) (refusal_line (codes "task") f.line) o is in
    record {
      line = file_words (codes "task") f.line w.said;
      plain = file_plain (codes "task") f.line w.said refl (kind_plain f.kind w.said w.among);
      is = w.text;
      letter = letter_behind (codes "task" ++ codes " refused: line " ++ decimal f.line ++ codes ": ") w.said (kind_letter f.kind w.said w.among);
      status = w.status;
    }

layers_refused : (fault : LayerFault) (o : Output) → layers_refusal fault ≡ Some o → IsRefusal o
layers_refused fault o is =
    let w = worded (layer_words fault) layers_line o is in
    record {
      line = codes "task refused: " ++ w.said;
      plain = plain-append (codes "task refused: ") w.said refl (layer_plain fault w.said w.among);
      is = w.text;
      letter = letter_behind (codes "task refused: ") w.said (layer_letter fault w.said w.among);
      status = w.status;
    }

reading_refused : (r : Result Parts Fault) (o : Output) → IsAnswerOrRefusal (codes "task") (UnlayeredAnswer plain_refusal) r (Some o) → IsRefusal o
reading_refused (Err f) o is = file_refusal f o (sym is)
reading_refused (Ok p) o (answer, (fault, first, reported), is) = layers_refused fault o (reported ∙ sym is)

pub task_refused : (b : List ℕ) (o : Output) → TaskOut (UnlayeredAnswer plain_refusal) b (Some o) → IsRefusal o
task_refused b o (r, reads, is) = reading_refused r o is

-- The text of lines of reasons, line by line.
use Rattle.std.proofs.lemmas.Grind.{common_steps}
use Rattle.sas_requests.proofs.Imports.{◌≡◌, ℕ, List, [], ◌∷◌, ◌++◌, ◌∙◌, sym, ap, arith, append_assoc, append-nil, FileLine, ended_line, file_text}

-- one line more
pub text_then : (old before after : List ℕ) (lines : List FileLine) (l : FileLine) → before ≡ old ++ file_text lines → after ≡ before ++ ended_line l
    → after ≡ old ++ file_text (lines ++ l ∷ [])
text_then old before after [] l e f = grind (arith, common_steps, append_assoc)
text_then old before after (first ∷ lines) l e f = text_then (old ++ ended_line first) before after lines l (grind (arith, common_steps, append_assoc)) f ∙ append_assoc old (ended_line first) (file_text (lines ++ l ∷ []))

pub text_of_one : (old after : List ℕ) (l : FileLine) → after ≡ old ++ ended_line l → after ≡ old ++ file_text (l ∷ [])
text_of_one old after l e = grind (arith, common_steps)

-- more lines
pub text_behind : (old before after : List ℕ) (lines more : List FileLine) → before ≡ old ++ file_text lines → after ≡ before ++ file_text more
    → after ≡ old ++ file_text (lines ++ more)
text_behind old before after [] more e f = f ∙ ap (λ (t : List ℕ). t ++ file_text more) (e ∙ append-nil old)
text_behind old before after (first ∷ lines) more e f = text_behind (old ++ ended_line first) before after lines more (e ∙ sym (append_assoc old (ended_line first) (file_text lines))) f ∙ append_assoc old (ended_line first) (file_text (lines ++ more))

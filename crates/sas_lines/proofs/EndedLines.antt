-- Any bytes are their lines, each with a line end, followed by the rest, and no other lines.
use Rattle.sas_lines.proofs.Imports.{◌≡◌, ◌≢◌, ℕ, List, [], ◌∷◌, ◌++◌, length, length-append, arith, refl, sym, ap, ap₂, subst, ◌∙◌, append_assoc, append-nil, ◌⊎◌, inl, inr, eqb_tells, segments, without_return, lines_among, rest_among, lines, unfinished, NoEnd, AreLines, EndedLines, text, flat_map-append}
use Rattle.sas_lines.proofs.Separated.{Without-append, segments-first, segments-some}
use Rattle.sas_lines.proofs.Found.{Without-return}
use Rattle.sas_lines.proofs.Splitting.{lines-without, unfinished-without, unfinished-plain_all}
use Rattle.sas_lines.proofs.Beginnings.{return_dropped}

-- ---- bytes that begin with a line

lines_first : (w bytes : List ℕ) → NoEnd w → lines (w ++ 10 ∷ bytes) ≡ without_return w ∷ lines bytes
unfolding lines
lines_first w bytes none =
    let s = segments-some 10 bytes in
    ap lines_among (segments-first 10 w bytes none ∙ ap (λ (ps : List (List ℕ)). w ∷ ps) s.are) ∙ ap (λ (ps : List (List ℕ)). without_return w ∷ lines_among ps) (sym s.are)

unfinished_first : (w bytes : List ℕ) → NoEnd w → unfinished (w ++ 10 ∷ bytes) ≡ unfinished bytes
unfolding unfinished
unfinished_first w bytes none =
    let s = segments-some 10 bytes in
    ap rest_among (segments-first 10 w bytes none ∙ ap (λ (ps : List (List ℕ)). w ∷ ps) s.are) ∙ ap rest_among (sym s.are)

-- ---- a line and the bytes before its LF

return_or_not : (p : List ℕ) → (p ≡ without_return p) ⊎ (p ≡ without_return p ++ 13 ∷ [])
return_or_not [] = inl refl
return_or_not (b ∷ []) = elim (eqb_tells b 13) [ inl y ↦ inr (rw y.0 (ap (λ (x : ℕ). x ∷ []) y.1)) | inr n ↦ inl (rw n.0 refl) ]
return_or_not (b ∷ c ∷ p) = elim (return_or_not (c ∷ p)) [ inl e ↦ inl (ap (λ (x : List ℕ). b ∷ x) e) | inr e ↦ inr (ap (λ (x : List ℕ). b ∷ x) e) ]

-- what keeps all its bytes doesn't end with CR
no_return : (p front : List ℕ) → p ≡ without_return p → p ≢ front ++ 13 ∷ []
no_return p front keeps is =
    let shorter : length p ≡ length front = ap length (keeps ∙ ap without_return is ∙ return_dropped front) in
    let longer : length p ≡ length (front ++ 13 ∷ []) = ap length is in
    omega (arith, shorter, longer, length-append front (13 ∷ []))

-- and what doesn't end with CR keeps all its bytes
kept : (line : List ℕ) → ((front : List ℕ) → line ≢ front ++ 13 ∷ []) → without_return line ≡ line
kept line none = elim (return_or_not line) [ inl e ↦ sym e | inr e ↦ absurd (none (without_return line) e) ]

-- how the line is ended
abbrev IsEnded : List ℕ → List ℕ → List ℕ → Type 0
IsEnded line behind bytes = ((bytes ≡ line ++ 10 ∷ behind) × ((front : List ℕ) → line ≢ front ++ 13 ∷ [])) ⊎ (bytes ≡ line ++ 13 ∷ 10 ∷ behind)

ended : (w behind : List ℕ) → (w ≡ without_return w) ⊎ (w ≡ without_return w ++ 13 ∷ []) → IsEnded (without_return w) behind (w ++ 10 ∷ behind)
ended w behind (inl e) = inl (ap (λ (x : List ℕ). x ++ 10 ∷ behind) e, λ front is. no_return w front e (e ∙ is))
ended w behind (inr e) = inr (ap (λ (x : List ℕ). x ++ 10 ∷ behind) e ∙ append_assoc (without_return w) (13 ∷ []) (10 ∷ behind))

before_end : (line behind bytes : List ℕ) → NoEnd line → IsEnded line behind bytes → (w : List ℕ) × NoEnd w × (bytes ≡ w ++ 10 ∷ behind) × (without_return w ≡ line)
before_end line behind bytes none (inl (is, plain)) = (line, none, is, kept line plain)
before_end line behind bytes none (inr is) = (line ++ 13 ∷ [], Without-append 10 line (13 ∷ []) none ((λ e. omega (arith, e)), tt), is ∙ sym (append_assoc line (13 ∷ []) (10 ∷ behind)), return_dropped line)

-- ---- any bytes are their lines and their rest

of_rest : (w : List ℕ) → NoEnd w → AreLines (lines w) (unfinished w) w
of_rest w none = subst (λ (ls : List (List ℕ)). AreLines ls (unfinished w) w) (sym (lines-without w none)) (sym (unfinished-without w none), unfinished-plain_all w)

of_line : (w bytes : List ℕ) → NoEnd w → AreLines (lines bytes) (unfinished bytes) bytes → AreLines (lines (w ++ 10 ∷ bytes)) (unfinished (w ++ 10 ∷ bytes)) (w ++ 10 ∷ bytes)
of_line w bytes none behind =
    let whole : AreLines (without_return w ∷ lines bytes) (unfinished bytes) (w ++ 10 ∷ bytes) = (bytes, Without-return 10 w none, ended w bytes (return_or_not w), behind) in
    subst (λ (ls : List (List ℕ)). AreLines ls (unfinished (w ++ 10 ∷ bytes)) (w ++ 10 ∷ bytes)) (sym (lines_first w bytes none))
    (subst (λ (rest : List ℕ). AreLines (without_return w ∷ lines bytes) rest (w ++ 10 ∷ bytes)) (sym (unfinished_first w bytes none)) whole)

-- with the first bytes of a line before them
lines_behind : (w bytes : List ℕ) → NoEnd w → AreLines (lines (w ++ bytes)) (unfinished (w ++ bytes)) (w ++ bytes)
lines_behind w [] none = subst (λ (x : List ℕ). AreLines (lines x) (unfinished x) x) (sym (append-nil w)) (of_rest w none)
lines_behind w (b ∷ bytes) none = elim (eqb_tells b 10) [
  | inl y ↦ subst (λ (x : ℕ). AreLines (lines (w ++ x ∷ bytes)) (unfinished (w ++ x ∷ bytes)) (w ++ x ∷ bytes)) (sym y.1) (of_line w bytes none (lines_behind [] bytes tt))
  | inr n ↦ subst (λ (x : List ℕ). AreLines (lines x) (unfinished x) x) (append_assoc w (b ∷ []) bytes) (lines_behind (w ++ b ∷ []) bytes (Without-append 10 w (b ∷ []) none (n.1, tt)))
]

pub are_lines : (bytes : List ℕ) → AreLines (lines bytes) (unfinished bytes) bytes
are_lines bytes = lines_behind [] bytes tt

-- and no other ones
pub no_others : (bytes : List ℕ) (others : List (List ℕ)) (rest : List ℕ) → AreLines others rest bytes → (others ≡ lines bytes) × (rest ≡ unfinished bytes)
no_others bytes [] rest (is, none) = (sym (ap lines is ∙ lines-without rest none), sym (ap unfinished is ∙ unfinished-without rest none))
no_others bytes (line ∷ more) rest (behind, none, is_ended, others) =
    let same = no_others behind more rest others in
    let first = before_end line behind bytes none is_ended in
    (ap₂ (λ (l : List ℕ) (ls : List (List ℕ)). l ∷ ls) (sym first.3) same.0 ∙ sym (ap lines first.2 ∙ lines_first first.0 behind first.1), same.1 ∙ sym (ap unfinished first.2 ∙ unfinished_first first.0 behind first.1))

-- ---- each line with a line end of either kind

either : (line behind bytes : List ℕ) → IsEnded line behind bytes → (bytes ≡ line ++ 10 ∷ behind) ⊎ (bytes ≡ line ++ 13 ∷ 10 ∷ behind)
either line behind bytes (inl x) = inl x.0
either line behind bytes (inr x) = inr x

with_ends : (ls : List (List ℕ)) (rest bytes : List ℕ) → AreLines ls rest bytes → EndedLines ls rest bytes
with_ends [] rest bytes h = h.0
with_ends (line ∷ more) rest bytes (behind, none, is_ended, others) = (behind, either line behind bytes is_ended, with_ends more rest behind others)

pub ended_lines : (bytes : List ℕ) → EndedLines (lines bytes) (unfinished bytes) bytes
ended_lines bytes = with_ends (lines bytes) (unfinished bytes) bytes (are_lines bytes)

-- ---- the text of lines

pub text_of_both : (a b : List (List ℕ)) → text (a ++ b) ≡ text a ++ text b
text_of_both a b = flat_map-append (λ (line : List ℕ). line ++ 10 ∷ []) a b

-- The text of lines that are stored at once.
use Rattle.sas_task_reader.proofs.Imports.{◌≡◌, ℕ, List, [], ◌∷◌, ◌++◌, take, refl, sym, ap, ap₂, subst, ◌∙◌, inl, inr, append_assoc, Ok, Some, not, ◌==◌, filter-append, AllByRecursion, IsPlain, plain_parts, lines, text, text_of_both, EndedLines, ended_lines, without_returns, returns_gone, Without, Front, TaskLine, spelled, LinesAhead, Section, ContentOf, section_lines, SectionAhead, KeepsSection, ParsedSection, SoFar}
use Rattle.sas_task_reader.specs.declared.task_judge.sections.Section.TheVariants as sections

no_return_in : (line : List ℕ) → IsPlain line → Without 13 line
no_return_in [] h = tt
no_return_in (b ∷ line) h = let parts = plain_parts b line h in (parts.1, no_return_in line parts.2)

-- one line more: it, its end, and the rest
line_kept : (line rest more : List ℕ) → IsPlain line → without_returns rest ≡ more → without_returns (line ++ 10 ∷ rest) ≡ (line ++ 10 ∷ []) ++ more
line_kept line rest more h e =
    filter-append (λ b. not (b == 13)) line (10 ∷ rest) ∙ ap₂ (λ (x y : List ℕ). x ++ 10 ∷ y) (returns_gone line (no_return_in line h)) e ∙ sym (append_assoc line (10 ∷ []) more)

return_dropped : (line rest : List ℕ) → without_returns (line ++ 13 ∷ 10 ∷ rest) ≡ without_returns (line ++ 10 ∷ rest)
return_dropped line rest = filter-append (λ b. not (b == 13)) line (13 ∷ 10 ∷ rest) ∙ sym (filter-append (λ b. not (b == 13)) line (10 ∷ rest))

without_returns_of : (ls : List (List ℕ)) (bytes : List ℕ) → AllByRecursion IsPlain ls → EndedLines ls [] bytes → without_returns bytes ≡ text ls
without_returns_of [] bytes h e = ap without_returns e
without_returns_of (line ∷ ls) bytes h e =
    let kept = line_kept line e.0 (text ls) h.0 (without_returns_of ls e.0 h.1 e.2) in
    elim e.1 [ inl is ↦ ap without_returns is ∙ kept | inr is ↦ ap without_returns is ∙ return_dropped line e.0 ∙ kept ]

stored_text : (items : List TaskLine) (bytes : List ℕ) (front : Front) → LinesAhead items bytes front → without_returns (take front.bytes bytes) ≡ text (spelled items)
stored_text items bytes front h =
    let taken = take front.bytes bytes in
    let ended = subst (λ (ls : List (List ℕ)). EndedLines ls [] taken) h.stands.stand.lines (subst (λ (rest : List ℕ). EndedLines (lines taken) rest taken) h.stands.stand.rest (ended_lines taken)) in
    without_returns_of (spelled items) taken h.plain ended

-- plain lines have no CR
pub text_plain : (ls : List (List ℕ)) → AllByRecursion IsPlain ls → without_returns (text ls) ≡ text ls
text_plain [] h = refl
text_plain (line ∷ ls) h = ap without_returns (append_assoc line (10 ∷ []) (text ls)) ∙ line_kept line (text ls) (text ls) h.0 (text_plain ls h.1)

of_both : (a b : List ℕ) → without_returns (a ++ b) ≡ without_returns a ++ without_returns b
of_both a b = filter-append (λ b. not (b == 13)) a b

-- without CRs, the stored text is that of the lines
abbrev pub Stores : List (List ℕ) → SoFar → List ℕ → Type 0
Stores lines s kept = without_returns kept ≡ without_returns (text lines)

lines_stand : (section : Section) (ranges bytes : List ℕ) (a : ContentOf section) (parsed : ParsedSection) → SectionAhead section ranges bytes a parsed → LinesAhead (section_lines section a) bytes parsed.front
lines_stand sections.Variable ranges bytes v parsed h = h.0.1
lines_stand sections.Group ranges bytes facts parsed h = h.0.1
lines_stand sections.Operator ranges bytes o parsed h = h.0.1
lines_stand sections.Rule ranges bytes r parsed h = h.0.1

-- a section is stored as its text
pub keeps_text : (section : Section) (ranges bytes old new : List ℕ) (a : ContentOf section) (parsed : ParsedSection) → SectionAhead section ranges bytes a parsed → new ≡ old ++ take parsed.front.bytes bytes
    → KeepsSection Stores section ranges bytes old new (Ok (Some parsed))
keeps_text section ranges bytes old new a parsed ahead is =
    let taken = take parsed.front.bytes bytes in
    let spelt = spelled (section_lines section a) in
    let stands = lines_stand section ranges bytes a parsed ahead in
    let same : without_returns taken ≡ without_returns (text spelt) = stored_text (section_lines section a) bytes parsed.front stands ∙ sym (text_plain spelt stands.plain) in
    record {
      took = (
        a,
        ahead,
        λ ls s kept.
            ap without_returns is ∙ of_both old taken ∙ ap₂ (λ (x y : List ℕ). x ++ y) kept same
            ∙ sym (ap without_returns (text_of_both ls spelt) ∙ of_both (text ls) (text spelt)),
      );
      none = tt;
      memory = tt;
    }

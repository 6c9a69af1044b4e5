-- The texts of a value are its lines, each with a line end.
use Rattle.sas_reader.proofs.Imports.{◌≡◌, ℕ, List, [], ◌∷◌, refl, ap, subst, ◌∙◌, append_assoc, append-nil, inl, lines, unfinished, text, EndedLines, ended_lines, front_of_lines, lines_of, Reads, Format, Node, Grammar, TextsAreEndedLines, TextIsRead}
use Rattle.sas_reader.proofs.Plain.{plain_lines}

ended_text : (ls : List (List ℕ)) → EndedLines ls [] (text ls)
ended_text [] = refl
ended_text (line ∷ ls) = (text ls, inl (append_assoc line (10 ∷ []) (text ls)), ended_text ls)

module _ {T V I S : Type 0} (F : Format V I S) (Fits : I → Type 0) (node : T → Node T V I S) (start : T) (g : Grammar F Fits node start) where
  reads_ended : (bytes : List ℕ) (v : V) → F.texts.Good v → EndedLines (lines_of F.texts v) [] bytes → Reads F.texts bytes v
  reads_ended bytes v h e =
      let f = front_of_lines (lines_of F.texts v) [] bytes (plain_lines (lines_of F.texts v) (g.plain v h)) e in
      let all : bytes ≡ f.front = f.are ∙ append-nil f.front in
      record { good = h; lines = ap lines all ∙ f.lines; rest = ap unfinished all ∙ f.whole }

  pub texts_are_ended_lines : TextsAreEndedLines F
  texts_are_ended_lines bytes v h = (λ r. subst (λ (ls : List (List ℕ)). EndedLines ls [] bytes) r.lines (subst (λ (rest : List ℕ). EndedLines (lines bytes) rest bytes) r.rest (ended_lines bytes)), λ e. reads_ended bytes v h e)

  pub text_is_read : TextIsRead F
  text_is_read v h = reads_ended (text (lines_of F.texts v)) v h (ended_text (lines_of F.texts v))

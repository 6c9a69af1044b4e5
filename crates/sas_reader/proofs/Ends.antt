-- Bytes before an end, and a line before its end.
use Rattle.sas_reader.proofs.Imports.{◌≡◌, ℕ, ◌+◌, ◌<◌, List, [], ◌∷◌, ◌++◌, length, get_or, take, drop, refl, sym, ap, ◌∙◌, inl, inr, take-append-drop, drop_more, EndedLines, StandsBefore}

-- the byte at this place, and the bytes after it
pub byte_at : (bytes : List ℕ) (at byte : ℕ) → at < length bytes → get_or bytes at 0 ≡ byte → bytes ≡ take at bytes ++ byte ∷ drop (at + 1) bytes
byte_at bytes at byte within is = sym (take-append-drop at bytes) ∙ ap (λ (l : List ℕ). take at bytes ++ l) (drop_more bytes at 0 within ∙ ap (λ (b : ℕ). b ∷ drop (at + 1) bytes) is)

pub ended_line : (line rest bytes : List ℕ) → StandsBefore line 10 rest bytes → EndedLines (line ∷ []) rest bytes
ended_line line rest bytes (inl e) = (rest, inl e, refl)
ended_line line rest bytes (inr e) = (rest, inr e.1, refl)

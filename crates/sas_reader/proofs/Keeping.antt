-- What is kept of a text.
use Rattle.std.specs.Str.{str_eq_ignore_ascii_case}
use Rattle.sas_reader.proofs.Imports.{refl, ap, subst, ◌∙◌, arith, ◌≡◌, take, drop, ℕ, ◌<◌, ◌+◌, Bool, false, ◌||◌, length, List, ◌∷◌, ◌++◌, codes, take_at, take_all, length-drop, ◌-◌, drop_more, has_word}

-- the first bytes, in room for more
pub front_kept : (t new rest : List ℕ) (m : ℕ) → take m t ≡ take 65 t → new ≡ take m t → take (length (take m t)) (new ++ rest) ≡ take 65 t
front_kept t new rest m same is = ap (λ (x : List ℕ). take (length (take m t)) (x ++ rest)) is ∙ take_at (take m t) rest (length (take m t)) refl ∙ same

-- a word that doesn't begin here occurs exactly if it does behind the next byte
pub word_behind : (text : List ℕ) (at : ℕ) → at < length text → str_eq_ignore_ascii_case (take 4 (take (length text - at) (drop at text))) (codes "cost") ≡ false → has_word (codes "cost") (drop at text) ≡ has_word (codes "cost") (drop (at + 1) text)
word_behind text at within other =
    let whole = take_all (length text - at) (drop at text) (omega (arith, length-drop at text)) in
    let more = drop_more text at 0 within in
    ap (has_word (codes "cost")) more ∙ ap (λ (x : Bool). x || has_word (codes "cost") (drop (at + 1) text)) (subst (λ (l : List ℕ). str_eq_ignore_ascii_case (take 4 l) (codes "cost") ≡ false) (whole ∙ more) other)

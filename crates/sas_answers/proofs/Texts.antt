-- The text of lines, part by part.
use Rattle.sas_answers.proofs.Imports.{◌≡◌, ℕ, List, [], ◌∷◌, ◌++◌, flat_map, refl, ap, ◌∙◌, text, text_of_both}

-- the lines of each item
pub text_of_each : {X : Type 0} (lines_of : X → List (List ℕ)) (items : List X) → text (flat_map lines_of items) ≡ flat_map (λ (x : X). text (lines_of x)) items
text_of_each lines_of [] = refl
text_of_each lines_of (x ∷ items) = text_of_both (lines_of x) (flat_map lines_of items) ∙ ap (λ (l : List ℕ). text (lines_of x) ++ l) (text_of_each lines_of items)

use Rattle.sas_answers.proofs.Imports.{List, ℕ, ◌∷◌, ap, sym}
use Rattle.sas_answers.proofs.Placed.{places_as}
use Rattle.sas_answers.proofs.placing.place_name.Goals as goal

pub returns-then-is_shown_whole : goal.returns-then-is_shown_whole
returns-then-is_shown_whole c =
    places_as _ _ _ _ _ _ (ap (λ (l : List ℕ). 32 ∷ l) (sym (c.is_shown_whole.ensures c.if-is_shown_whole.true))) c.place_behind_space.ensures

-- The places of the items of a list that pass a test, such as of the rules of a variable.
use Rattle.std.specs.Prelude.{ℕ, ◌+◌, ◌==◌, ◌&&◌, Bool, if◌then◌else◌, List, [], ◌∷◌}
use Rattle.sas_core.specs.declared.parts.Effect.{Effect}
use Rattle.sas_core.specs.declared.parts.Parts.{Parts}
use Rattle.sas_meaning.specs.Layers.{can_fire}

-- the places of the items that pass a test, ascending, where the first item has this place
abbrev pub places_from : {A : Type 0} → ℕ → (A → Bool) → List A → List ℕ
places_from place passes [] = []
places_from place passes (item ∷ items) = if passes item
    then place ∷ places_from (place + 1) passes items
    else places_from (place + 1) passes items

-- the places of the items that pass a test
abbrev pub places : {A : Type 0} → (A → Bool) → List A → List ℕ
places passes items = places_from 0 passes items

-- whether a rule is one of the variable that can fire
abbrev pub can_give : Parts → ℕ → Effect → Bool
can_give p var rule = (rule.var == var) && can_fire p rule

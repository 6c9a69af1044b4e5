-- The words for why a task isn't layered.
use Rattle.std.specs.Prelude.{ℕ, List, ◌++◌, codes, decimal, Option, Some, None}
use Rattle.sas_meaning.specs.declared.layered.LayerFault.{LayerFault}
use Rattle.sas_meaning.specs.declared.layered.LayerFault.TheVariants.{EffectOnDerived, RuleOnBasic, OldValue, TwoValues, LayerOrder, Memory}

-- `PART I: WHAT`, where I is the part's place
abbrev pub words_at_part : List ℕ → ℕ → List ℕ → List ℕ
words_at_part part place what = part ++ codes " " ++ decimal place ++ codes ": " ++ what

-- the words for a fault of a task's layers; refused memory is no fault of the task
abbrev pub layer_words : LayerFault → Option (List ℕ)
layer_words (EffectOnDerived operator effect) =
    Some (words_at_part (codes "operator") operator (codes "effect on derived variable"))
layer_words (RuleOnBasic rule) =
    Some (words_at_part (codes "rule") rule (codes "not on a derived variable"))
layer_words (OldValue rule) = Some (words_at_part (codes "rule") rule (codes "old value"))
layer_words (TwoValues rule) = Some (words_at_part (codes "rule") rule (codes "two values"))
layer_words (LayerOrder rule condition) =
    Some (words_at_part (codes "rule") rule (codes "layer order"))
layer_words Memory = None

-- the line that refuses a task with these words
abbrev pub layers_line : List ℕ → List ℕ
layers_line words = codes "task refused: " ++ words ++ codes "\n"

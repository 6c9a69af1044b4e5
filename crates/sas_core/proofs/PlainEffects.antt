-- Effects without conditions, in terms of their changes.
use Rattle.sas_core.proofs.Imports.{◌≡◌, ℕ, ◌<◌, List, length, get_or, ◌∙◌, ap, length-map, get_or-map, Change, Effect, Operator, plain_effect, plain_effects, no_effect, effect_at}

module _ (o : Operator) (changes : List Change) (is : o.effects ≡ plain_effects changes) where
  pub as_many_effects : length o.effects ≡ length changes
  as_many_effects = ap length is ∙ length-map changes plain_effect

  pub effect_is_plain : (k : ℕ) (d : Change) → k < length changes → effect_at o k ≡ plain_effect (get_or changes k d)
  effect_is_plain k d lt = ap (λ (effects : List Effect). get_or effects k no_effect) is ∙ get_or-map plain_effect changes k d no_effect lt

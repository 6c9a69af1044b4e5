-- Properties of all effects as properties of the effect at each index, and when an operator
-- keeps a group.
use Rattle.sas_groups.proofs.Imports.{arith, rules, ◌≡◌, ℕ, ◌<◌, length, ◌∙◌, ap, subst, get_or_default, Contains-get_or, Contains, List, Change, Fact, Effect, Operator, effect_at, change_of, Keeps, IsRemoved, sets, Removes, NotBoth, KeepsIfSets, known, no_effect}

-- the fact that a change sets
pub set_is : (e : Effect) (change : Change) (fact : Fact) → change ≡ change_of e → fact ≡ record { var = change.var; value = change.new }
    → fact ≡ sets e
set_is e change fact is set = set ∙ ap (λ (c : Change). record { var = c.var; value = c.new }) is

-- the same lists of facts are known
pub known_same : (o : Operator) (first first' second second' : List Fact) → first ≡ first' → second ≡ second' → known o first second ≡ known o first' second'
known_same o first first' second second' is is' = ap (λ (x : List Fact). known o x second) is ∙ ap (λ (y : List Fact). known o first' y) is'

module _ (o : Operator) where
  effect_in : (effect : ℕ) → effect < length o.effects → Contains o.effects (effect_at o effect)
  effect_in effect lt = Contains-get_or o.effects effect no_effect lt

  -- what each effect has by its index, one of the effects has
  of_one : (P : Effect → Type 0) (e : Effect) → ((effect : ℕ) → effect < length o.effects → P (effect_at o effect)) → Contains o.effects e → P e
  of_one P e each (k, lt, is) = subst P (get_or_default o.effects k no_effect e lt ∙ is) (each k lt)

  -- an effect that removes the fact is one that the loop came by
  pub never_removed : (facts : List Fact) (fact : Fact) → ((effect : ℕ) → effect < length o.effects → Removes (Contains facts) (effect_at o effect) fact → ⊥) → IsRemoved o facts fact → ⊥
  never_removed facts fact none w = of_one (λ (e : Effect). Removes (Contains facts) e fact → ⊥) w.effect none w.among w.removes

-- an operator keeps a group if each effect that sets a fact of it does
module _ (Counts : List Fact → Type 0) (o : Operator) (group : List Fact) where
  pub keeps_from_effects : ((effect : ℕ) → effect < length o.effects → KeepsIfSets Counts o group (effect_at o effect)) → Keeps Counts o group
  keeps_from_effects each = record {
    two = λ e f in_e in_f he. of_one o (NotBoth Counts o group e) f (of_one o (KeepsIfSets Counts o group) e each in_e he).single in_f;
    others = λ e f in_e he. (of_one o (KeepsIfSets Counts o group) e each in_e he).others f;
  }

  pub effect_of_keeps : Keeps Counts o group → (effect : ℕ) → effect < length o.effects → KeepsIfSets Counts o group (effect_at o effect)
  effect_of_keeps keeps effect lt he = search (rules, arith)

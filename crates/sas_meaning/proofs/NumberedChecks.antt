-- The first fault among the checks of the items of a list.
use Rattle.sas_meaning.proofs.Imports.{common_steps, ◌≡◌, ℕ, [], not, is_some, refl, Parts, IsBasic, EffectOnDerived, effect_layer_checks, operator_layer_checks, ◌+◌, ◌<◌, ◌≤◌, Bool, List, ◌∷◌, length, flat_map, drop, get_or, Option, Some, None, sym, ◌∙◌, ap, add-one, arith, drop-cons, drop_all, get_or-enumerate_from, length-enumerate_from, enumerate_from, Check, first_fault, check, fails_before, decides_after, LayerFault, numbered_checks}

-- a check, and one whose test says the same
pub same_check : (passes test : Bool) (e : LayerFault) (found : Option LayerFault) → passes ≡ test → found ≡ first_fault (check passes e) → found ≡ first_fault (check test e)
same_check passes test e found same is = is ∙ ap (λ b. first_fault (check b e)) same

-- the checks of items that are named already
abbrev named : {A : Type 0} → (ℕ → A → List (Check LayerFault)) → List (ℕ × A) → List (Check LayerFault)
named checks_of items = flat_map (λ (place, item). checks_of place item) items

-- the items before this place pass, so the first fault is that of the items from there on
pub record PassBefore {A : Type 0} (checks_of : ℕ → A → List (Check LayerFault)) (items : List A) (place : ℕ) : Type 0 where
  pub rest_decides : first_fault (numbered_checks checks_of items) ≡ first_fault (named checks_of (drop place (enumerate_from 0 items)))

module _ {A : Type 0} (checks_of : ℕ → A → List (Check LayerFault)) (items : List A) where
  -- no item is left
  pub pass_all : (place : ℕ) → length items ≤ place → PassBefore checks_of items place → None ≡ first_fault (numbered_checks checks_of items)
  pass_all place past before = grind (arith, common_steps, drop_all, enumerate_from, length-enumerate_from)

  module _ (place : ℕ) (otherwise item : A) (below : place < length items) (is : item ≡ get_or items place otherwise) (before : PassBefore checks_of items place) where
    at_item : drop place (enumerate_from 0 items) ≡ (place, item) ∷ drop (place + 1) (enumerate_from 0 items)
    at_item =
        let here = drop-cons (enumerate_from 0 items) place (0, otherwise) (omega (arith, length-enumerate_from 0 items)) in
        let its = get_or-enumerate_from 0 items place (0, otherwise) below in
        let same_place : 0 + place ≡ place = omega arith in
        here
        ∙ (λ j. its j ∷ drop (sym (add-one place) j) (enumerate_from 0 items))
        ∙ (λ j. (same_place j, sym is j) ∷ drop (place + 1) (enumerate_from 0 items))

    -- the item at this place passes
    pub pass_before_next : None ≡ first_fault (checks_of place item) → PassBefore checks_of items (place + 1)
    pass_before_next none = grind (arith, common_steps, at_item, decides_after, enumerate_from)

    -- the item at this place fails
    pub fails_at : (e : LayerFault) → Some e ≡ first_fault (checks_of place item) → Some e ≡ first_fault (numbered_checks checks_of items)
    fails_at e some = grind (arith, common_steps, fails_before, enumerate_from, at_item)

-- each item passes
pub pass_each : {A : Type 0} (checks_of : ℕ → A → List (Check LayerFault)) (first : ℕ) (items : List A) → ((place : ℕ) (item : A) → None ≡ first_fault (checks_of place item))
    → None ≡ first_fault (named checks_of (enumerate_from first items))
pass_each checks_of first [] each = refl
pass_each checks_of first (item ∷ items) each =
    decides_after (checks_of first item) (named checks_of (enumerate_from (first + 1) items)) None (each first item) (pass_each checks_of (first + 1) items each)

-- where no variable is derived, all operators pass
pub pass_basic : (p : Parts) → ((var : ℕ) → IsBasic p var) → None ≡ first_fault (numbered_checks (operator_layer_checks p) p.operators)
pass_basic p basic = pass_each (operator_layer_checks p) 0 p.operators (λ operator o. pass_each (effect_layer_checks p operator) 0 o.effects
    (λ effect e. ap (λ layer. first_fault (check (not (is_some layer)) (EffectOnDerived operator effect))) (sym (basic e.var))))

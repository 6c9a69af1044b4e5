-- The first fault of a sequence of checks, and of a list with its length.
use Rattle.sas_core.proofs.Imports.{◌≡◌, ℕ, ◌+◌, ◌<◌, ◌≤◌, Bool, true, false, if◌then◌else◌, List, [], ◌∷◌, ◌++◌, length, flat_map, drop, get_or, Option, Some, None, refl, sym, ◌∙◌, ap, add-one, drop-cons, drop_all, PartsFault, TooMany, is_number, Check, first_fault, check, listed}

fails_first : {F : Type 0} (passes : Bool) (d e : F) (rest whole : Option F) → (Some e ≡ rest → Some e ≡ whole) → Some e ≡ (if passes then rest else Some d) → Some e ≡ (if passes then whole else Some d)
fails_first true d e rest whole later some = later some
fails_first false d e rest whole later some = some

passes_first : {F : Type 0} (passes : Bool) (d : F) (rest whole found : Option F) → (None ≡ rest → found ≡ whole) → None ≡ (if passes then rest else Some d) → found ≡ (if passes then whole else Some d)
passes_first true d rest whole found later none = later none
passes_first false d rest whole found later none = absurd (cc)

-- where a check of a row fails, those behind it don't count
pub fails_before : {F : Type 0} (a b : List (Check F)) (e : F) → Some e ≡ first_fault a → Some e ≡ first_fault (a ++ b)
fails_before [] b e some = absurd (cc)
fails_before (c ∷ a) b e some = fails_first c.passes c.fault e (first_fault a) (first_fault (a ++ b)) (fails_before a b e) some

-- where no check of a row fails, those behind it decide
pub decides_after : {F : Type 0} (a b : List (Check F)) (found : Option F) → None ≡ first_fault a → found ≡ first_fault b → found ≡ first_fault (a ++ b)
decides_after [] b found none later = later
decides_after (c ∷ a) b found none later =
    passes_first c.passes c.fault (first_fault a) (first_fault (a ++ b)) found (λ rest. decides_after a b found rest later) none

-- the items before place i pass, so the first fault is that of the items from i on
pub record PassBefore {A : Type 0} (checks_of : A → List (Check PartsFault)) (items : List A) (i : ℕ) : Type 0 where
  pub rest_decides : first_fault (listed TooMany checks_of items) ≡ first_fault (flat_map checks_of (drop i items))

-- a list, and what is read of it
module _ {A : Type 0} (checks_of : A → List (Check PartsFault)) (items read : List A) (same : read ≡ items) where
  -- the count is a number
  pub pass_before_first : None ≡ first_fault (check (is_number (length items)) TooMany) → PassBefore checks_of items 0
  pass_before_first count = record {
    rest_decides = sym (decides_after (check (is_number (length items)) TooMany) (flat_map checks_of items) _ count refl);
  }

  -- no item is left
  pub pass_all : (i : ℕ) → length read ≤ i → PassBefore checks_of items i → None ≡ first_fault (listed TooMany checks_of items)
  pass_all i past before =
      sym
      (before.rest_decides
      ∙ ap (λ rest. first_fault (flat_map checks_of rest)) ((λ j. drop i (sym same j)) ∙ drop_all i read past))

  module _ (i : ℕ) (item : A) (below : i < length read) (is : item ≡ get_or read i item) (before : PassBefore checks_of items i) where
    at_item : drop i items ≡ item ∷ drop (i + 1) items
    at_item =
        (λ j. drop i (sym same j))
        ∙ drop-cons read i item below
        ∙ (λ j. sym is j ∷ drop (sym (add-one i) j) (same j))

    -- the item at place i passes
    pub pass_before_next : None ≡ first_fault (checks_of item) → PassBefore checks_of items (i + 1)
    pass_before_next none = record {
      rest_decides =
          before.rest_decides
          ∙ ap (λ rest. first_fault (flat_map checks_of rest)) at_item
          ∙ sym (decides_after (checks_of item) (flat_map checks_of (drop (i + 1) items)) _ none refl);
    }

    -- the item at place i fails
    pub fails_at : (e : PartsFault) → Some e ≡ first_fault (checks_of item) → Some e ≡ first_fault (listed TooMany checks_of items)
    fails_at e some =
        fails_before (checks_of item) (flat_map checks_of (drop (i + 1) items)) e some
        ∙ sym (before.rest_decides ∙ ap (λ rest. first_fault (flat_map checks_of rest)) at_item)

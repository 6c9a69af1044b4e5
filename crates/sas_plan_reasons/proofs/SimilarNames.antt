-- The operator with a similar name.
use Rattle.std.proofs.lemmas.Grind.{common_steps}
use Rattle.std.proofs.lemmas.Slice.Eq.{slice_eq-Decides}
use Rattle.std.proofs.lemmas.List.Sorted.{IsPermutation-refl}
use Rattle.std.specs.Cmp.Lexicographic.{pointwise}
use Rattle.std.specs.Option.{option_or}
use Rattle.std.specs.Prelude.{position}
use Rattle.sas_plan_reasons.proofs.Imports.{◌≡◌, ℕ, ◌<◌, Bool, List, [], length, Option, Some, None, refl, sym, ◌∙◌, ap, subst, inl, inr, arith, bytes_eq, position_or_len, true≢false, lt-ltb, ltb-true, cases_lt, cases_Bool, Decides, fails_before_first, passes_at_first, bytes_eq-Decides, IsPermutation, Operator, Parts, operator_at, words, are_permuted, similar_operator, IsLowest, IsLowestIfAny, IsAlike, IsPermuted, IsSimilar, Sought, IsSought, IsLikeness, Likeness, map, ◌+◌, cases_eq}
use Rattle.sas_plan_reasons.proofs.Lowest.{lowest_if_any_is_one}
use Rattle.sas_plan_reasons.proofs.PermutedWords.{permuted_decides}

abbrev no_operator : Operator
no_operator = record { name = []; prevail = []; effects = []; cost = 0 }

-- a test that passes for the operators with a property finds the lowest of them
module _ (p : Parts) (test : Operator → Bool) (Has : ℕ → Type 0) (exists : (operator : ℕ) → Has operator → operator < length p.operators)
    (tells : (operator : ℕ) → operator < length p.operators → Decides (test (operator_at p operator)) (Has operator)) where
  abbrev first : ℕ
  first = position_or_len test p.operators

  none_before : (operator : ℕ) → operator < first → Has operator → ⊥
  none_before operator lt has = true≢false (sym ((tells operator (exists operator has)).1 has) ∙ fails_before_first test p.operators operator no_operator lt)

  pub lowest_found : IsLowestIfAny Has (position test p.operators)
  lowest_found = grind (arith, common_steps, cases_Bool, ltb-true, tells, passes_at_first, none_before, cases_lt, true≢false, lt-ltb, exists)

module _ (p : Parts) (name : List ℕ) where
  abbrev has_words : Operator → Bool
  has_words o = pointwise bytes_eq (words o.name) (words name)

  abbrev has_permuted : Operator → Bool
  has_permuted o = are_permuted (words name) (words o.name)

  alike_tells : (operator : ℕ) → operator < length p.operators → Decides (has_words (operator_at p operator)) (IsAlike p name operator)
  alike_tells operator lt =
      let its = slice_eq-Decides bytes_eq-Decides (words (operator_at p operator).name) (words name) _ refl in
      (λ t. record { exists = lt; alike = its.0 t }, λ is. its.1 is.alike)

  permuted_tells : (operator : ℕ) → operator < length p.operators → Decides (has_permuted (operator_at p operator)) (IsPermuted p name operator)
  permuted_tells operator lt =
      let its = permuted_decides (words name) (words (operator_at p operator).name) in
      (λ t. record { exists = lt; permuted = its.0 t }, λ is. its.1 is.permuted)

  alike : IsLowestIfAny (IsAlike p name) (position has_words p.operators)
  alike = lowest_found p has_words (IsAlike p name) (λ operator is. is.exists) alike_tells

  permuted : IsLowestIfAny (IsPermuted p name) (position has_permuted p.operators)
  permuted = lowest_found p has_permuted (IsPermuted p name) (λ operator is. is.exists) permuted_tells

  -- words in the same order are so in some order
  pub alike_permuted : (operator : ℕ) → IsAlike p name operator → IsPermuted p name operator
  alike_permuted operator is = record { exists = is.exists; permuted = subst (λ ws. IsPermutation ws (words (operator_at p operator).name)) is.alike (IsPermutation-refl (words (operator_at p operator).name)) }

  pub some_similar : IsSimilar p name (similar_operator p name)
  some_similar = of (position has_words p.operators) (position has_permuted p.operators) alike permuted
    where
      of : (a b : Option ℕ) → IsLowestIfAny (IsAlike p name) a → IsLowestIfAny (IsPermuted p name) b → IsSimilar p name (option_or a b)
      of (Some operator) b low other = inl low
      of None (Some operator) none low = inr (none, low)
      of None None none none' = none'

  -- it is the only one
  pub similar_is : (similar : Option ℕ) → IsSimilar p name similar → similar ≡ similar_operator p name
  similar_is (Some operator) (inl low) = sym (ap (λ (a : Option ℕ). option_or a (position has_permuted p.operators)) (lowest_if_any_is_one (IsAlike p name) _ (Some operator) alike low))
  similar_is (Some operator) (inr both) = sym (ap (λ (a : Option ℕ). option_or a (position has_permuted p.operators)) (lowest_if_any_is_one (IsAlike p name) _ None alike both.0)
      ∙ lowest_if_any_is_one (IsPermuted p name) _ (Some operator) permuted both.1)
  similar_is None none = sym (ap (λ (a : Option ℕ). option_or a (position has_permuted p.operators)) (lowest_if_any_is_one (IsAlike p name) _ None alike (λ operator is. none operator (alike_permuted operator is)))
      ∙ lowest_if_any_is_one (IsPermuted p name) _ None permuted none)

-- the words that are sought are those of the name
pub sought_itself : (ws : List (List ℕ)) (sought : Sought) (is : IsSought ws sought) → IsSought (map (λ word. word.now) sought.words.items) sought
sought_itself ws sought is = subst (λ (l : List (List ℕ)). IsSought l sought) (sym is.same) is

-- the lowest operator with these words in some order, or none below a bound has them
abbrev pub IsPermutedBelow : Parts → List ℕ → ℕ → Option ℕ → Type 0
IsPermutedBelow p name bound (Some operator) = IsLowest (IsPermuted p name) operator
IsPermutedBelow p name bound None = (lower : ℕ) → lower < bound → IsPermuted p name lower → ⊥

module _ (p : Parts) (name : List ℕ) (operator : ℕ) where
  pub its_likeness : (ws other : List (List ℕ)) (l : Likeness) → ws ≡ words name → other ≡ words (operator_at p operator).name → IsLikeness ws other l
      → IsLikeness (words name) (words (operator_at p operator).name) l
  its_likeness ws other l sought its is = subst (λ (a : List (List ℕ)). IsLikeness a (words (operator_at p operator).name) l) sought (subst (λ (b : List (List ℕ)). IsLikeness ws b l) its is)

  -- one more operator has the words in another order, or doesn't have them
  pub noted_more : (before : Option ℕ) → IsPermutedBelow p name operator before → IsPermuted p name operator → IsPermutedBelow p name (operator + 1) (option_or before (Some operator))
  noted_more (Some lowest) low is = low
  noted_more None none is = record { has = is; first = none }

  pub passed_more : (before : Option ℕ) → IsPermutedBelow p name operator before → (IsPermuted p name operator → ⊥) → IsPermutedBelow p name (operator + 1) before
  passed_more (Some lowest) low other = low
  passed_more None none other = λ lower lt is. elim (cases_eq lower operator) [
    | inl e ↦ other (subst (IsPermuted p name) e is)
    | inr ne ↦ none lower (omega (arith, lt, ne)) is
  ]

  pub none_more : ((lower : ℕ) → lower < operator → IsAlike p name lower → ⊥) → (IsAlike p name operator → ⊥) → (lower : ℕ) → lower < operator + 1 → IsAlike p name lower → ⊥
  none_more none other lower lt is = elim (cases_eq lower operator) [
    | inl e ↦ other (subst (IsAlike p name) e is)
    | inr ne ↦ none lower (omega (arith, lt, ne)) is
  ]

-- what was noted of all operators is the similar one
pub noted_similar : (p : Parts) (name : List ℕ) (noted : Option ℕ) → ((lower : ℕ) → lower < length p.operators → IsAlike p name lower → ⊥)
    → IsPermutedBelow p name (length p.operators) noted → noted ≡ similar_operator p name
noted_similar p name (Some operator) none low = similar_is p name (Some operator) (inr (λ other is. none other is.exists is, low))
noted_similar p name None none low = similar_is p name None (λ other is. low other is.exists is)

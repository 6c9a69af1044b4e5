-- The search in a long chain, in two lists, of which the first begins with the lower operator.
use Rattle.sas_run.proofs.Imports.{◌≡◌, ℕ, ◌<◌, ◌≤◌, ◌⊎◌, List, [], ◌∷◌, zero, suc, slice_index, Option, None, Some, sym, ◌∙◌, subst, inl, inr, arith, cases_lt, All-tail, All-contains, Parts, operator_at, Holds, preconditions, IsApplicable, IsFirstChosen, LongChain, Requires, operators_with, IsIn, ArePart, IsLongChain, AreEither, BeginsLower}
use Rattle.std.proofs.lemmas.Grind.{get_or_default_zero}
use Rattle.std.proofs.lemmas.List.Elements.{Contains-append_cases}
use Rattle.std.proofs.lemmas.List.Quantifiers.{all_pairs_remove}
use Rattle.std.specs.Prelude.{Contains}

-- operators that are in neither list aren't applicable
pub record Left (p : Parts) (s : List ℕ) (first : ℕ) (low high : List ℕ) : Type 0 where
  pub low_part : ArePart p first None low
  pub high_part : ArePart p first None high
  pub all : (operator : ℕ) → IsIn p first None operator → IsApplicable s (operator_at p operator) → Contains low operator ⊎ Contains high operator

module _ (p : Parts) (s : List ℕ) (first : ℕ) where
  -- in any order
  reordered : (a b low high : List ℕ) → AreEither a b low high → Left p s first a b → Left p s first low high
  reordered a b low high either left = grind arith

  -- at first, they are those that require the state's value, and those that require none
  pub starts : (chain : LongChain) (value : ℕ) (same free low high : List ℕ) → IsLongChain p first chain None → value ≡ slice_index s chain.var
      → same ≡ operators_with chain (Some value) → free ≡ operators_with chain None → AreEither same free low high → Left p s first low high
  starts chain value same free low high is of_state is_same is_free either = reordered same free low high either (rw (is_same, is_free) (record {
    low_part = is.parts (Some value);
    high_part = is.parts None;
    all = λ operator in_chain can. let (value, there, requires) = is.all operator in_chain in in_either operator can value there requires;
  }))
    where
      in_either : (operator : ℕ) → IsApplicable s (operator_at p operator) → (its : Option ℕ) → Contains (operators_with chain its) operator → Requires (operator_at p operator) chain.var its
          → Contains (operators_with chain (Some value)) operator ⊎ Contains (operators_with chain None) operator
      in_either operator can None there requires = inr there
      in_either operator can (Some its) there requires =
          let holds : slice_index s chain.var ≡ its = All-contains (Holds (slice_index s)) (preconditions (operator_at p operator)) (record { var = chain.var; value = its }) can requires in
          inl (subst (λ v. Contains (operators_with chain (Some v)) operator) (sym (of_state ∙ holds)) there)

  module _ (next : ℕ) (low rest high : List ℕ) (is : low ≡ next ∷ rest) (begins : Left p s first low high) where
    left : Left p s first (next ∷ rest) high
    left = subst (λ l. Left p s first l high) is begins

    -- the first one isn't applicable
    pub goes_on : (new_low new_high : List ℕ) → (IsApplicable s (operator_at p next) → ⊥) → AreEither rest high new_low new_high → Left p s first new_low new_high
    goes_on new_low new_high not either = reordered rest high new_low new_high either (record {
      low_part = record { in_chain = All-tail (IsIn p first None) next rest left.low_part.in_chain; ascend = all_pairs_remove (λ a b. a < b) (next ∷ rest) 0 (omega arith) left.low_part.ascend };
      high_part = left.high_part;
      all = λ operator in_chain can. elim (left.all operator in_chain can) [
        | inl in_low ↦ elim (Contains-append_cases (next ∷ []) rest operator in_low) [
          | inl (k, lt, here) ↦ absurd (not (subst (λ o. IsApplicable s (operator_at p o)) (grind (arith)) can))
          | inr behind ↦ inl behind
        ]
        | inr in_high ↦ inr in_high
      ];
    })

    below_low : (o : ℕ) → Contains (next ∷ rest) o → next ≤ o
    below_low o (zero, lt, here) = omega (arith, here)
    below_low o (suc k, lt, here) = let up = left.low_part.ascend 0 (suc k) o (omega arith) lt in omega (arith, here)

    below_high : (o : ℕ) → BeginsLower (next ∷ rest) high → Contains high o → next ≤ o
    below_high o lower (zero, lt, here) = let low = lower (omega arith) in omega (arith, here, get_or_default_zero high 0 o (omega arith))
    below_high o lower (suc k, lt, here) = let up = left.high_part.ascend 0 (suc k) o (omega arith) lt in let low = lower (omega arith) in omega (arith, here, get_or_default_zero high 0 o (omega arith))

    -- the first one is applicable
    pub chosen : BeginsLower low high → IsApplicable s (operator_at p next) → IsFirstChosen p s first (Some next)
    chosen lower can = (
      (left.low_part.in_chain 0 0 (omega arith)).0,
      (left.low_part.in_chain 0 0 (omega arith)).1,
      can,
      λ o from_on below named can'. elim (left.all o (from_on, named, tt) can') [
        | inl low ↦ let up = below_low o low in omega arith
        | inr in_high ↦ let up = below_high o (subst (λ l. BeginsLower l high) is lower) in_high in omega arith
      ],
    )

  pub none_left : (high : List ℕ) → BeginsLower [] high → Left p s first [] high → IsFirstChosen p s first None
  none_left high lower left = grind (arith, cases_lt)

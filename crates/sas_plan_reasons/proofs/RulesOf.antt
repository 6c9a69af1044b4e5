-- The rules of a variable that can fire, and what values they give it.
use Rattle.std.proofs.lemmas.Grind.{common_steps}
use Rattle.sas_plan_reasons.proofs.Imports.{◌≡◌, ℕ, ◌+◌, true, false, List, [], ◌∷◌, refl, sym, subst, inl, inr, arith, ◌==◌, ◌&&◌, slice_get, Some, None, Contains, cases_Bool, eqb-true, and_parts, and_from, eqb_tells, get_or_default, Any-from_list_any, list_any_at, Fact, Effect, Parts, rule_at, IsLayered, places, can_give, contains_none, is_place, of_variable, can_of, can_be_given}

module _ (p : Parts) where
  -- if the variable has no rule that can fire, it can't be given a value
  pub none_gives : (fact : Fact) → places (can_give p fact.var) p.rules ≡ [] → can_be_given p fact ≡ false
  none_gives fact none = elim (cases_Bool (can_be_given p fact)) [
    | inr n ↦ n
    | inl y ↦ (let w = Any-from_list_any (λ (rule : Effect). can_give p fact.var rule && (rule.new == fact.value)) p.rules y in
        let its = (and_parts (can_give p fact.var w.1) (w.1.new == fact.value) w.4).0 in
        absurd (contains_none (0 + w.0) (subst (λ l. Contains l (0 + w.0)) none
        (is_place (can_give p fact.var) 0 p.rules w.0 w.1 w.2 (subst (λ (r : Effect). can_give p fact.var r ≡ true) (sym w.3) its)))))
  ]

  -- all give it the value that one of them gives it
  pub one_gives : IsLayered p → (fact : Fact) (rule : ℕ) → Contains (places (can_give p fact.var) p.rules) rule
      → can_be_given p fact ≡ ((rule_at p rule).new == fact.value)
  one_gives layered fact rule h = grind (arith, common_steps, eqb_tells, list_any_at, and_from, cases_Bool, Any-from_list_any, and_parts, eqb-true, of_variable, get_or_default, can_of)

-- the first item of a list
pub first_is : (xs : List ℕ) (x : ℕ) → slice_get xs 0 ≡ Some x → Contains xs x
first_is h1 x is = grind (arith, common_steps)

pub first_is_none : (xs : List ℕ) → slice_get xs 0 ≡ None → xs ≡ []
first_is_none [] is = refl
first_is_none (y ∷ ys) is = absurd (let e : Some y ≡ None = is in cc)

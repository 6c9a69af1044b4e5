-- Effects without conditions, in terms of their changes.
use Rattle.sas_mutex.proofs.Imports.{arith, common_steps, ◌≡◌, ℕ, ◌<◌, List, [], length, get_or, None, sym, ap, subst, All-nil, Any, Change, Fact, Effect, Operator, change_of, plain_effects, effect_at, Notes, SomeRemoves, SetsOtherValue, as_many_effects, effect_is_plain}

module _ (o : Operator) (changes : List Change) (is : o.effects ≡ plain_effects changes) where
  pub within : (k : ℕ) → k < length changes → k < length o.effects
  within k lt = subst (λ n. k < n) (sym (as_many_effects o changes is)) lt

  pub change_is : (k : ℕ) (d : Change) → k < length changes → get_or changes k d ≡ change_of (effect_at o k)
  change_is k d lt = sym (ap (λ (e : Effect). change_of e) (effect_is_plain o changes is k d lt))

  pub no_conditions : (k : ℕ) → k < length changes → (effect_at o k).conditions ≡ []
  no_conditions k lt = ap (λ (e : Effect). e.conditions) (effect_is_plain o changes is k (record { var = 0; old = None; new = 0 }) lt)

  -- an effect removes a fact if its change sets another value
  pub change_removes : (notes : Notes) (fact : Fact) → Any (SetsOtherValue fact) changes → SomeRemoves o notes fact
  change_removes notes fact (k, change, lt, at, (var, other)) = grind (arith, common_steps, change_is, within, no_conditions, All-nil)

  pub removes_by_change : (notes : Notes) (fact : Fact) → SomeRemoves o notes fact → Any (SetsOtherValue fact) changes
  removes_by_change notes fact (effect, lt, removes) =
      let below = subst (λ n. effect < n) (as_many_effects o changes is) lt in
      let change = change_of (effect_at o effect) in
      (effect, change, below, change_is effect change below, (removes.var, removes.other))

-- The lowest effect that may set another fact of a group, as more effects are looked at.
use Rattle.std.proofs.lemmas.Grind.{common_steps}
use Rattle.sas_mutex.proofs.Imports.{take, take_all, take_more, length-take, get_or-take, get_or_default, Contains-get_or, Contains-push_cases, ◌≡◌, ℕ, ◌+◌, ◌<◌, ◌≤◌, ◌⊎◌, min, Bool, List, length, get_or, refl, sym, ◌∙◌, ap, subst, inl, inr, arith, cases_eq, Contains, Fact, effect_at, group_at, sets, EffectPlace, operator_of, NotBothAt, IsOnVariableBefore, IsLowestPartner, IsAny, SetsVariable}

-- the effects of the operator that set the variable of one of these facts
abbrev pub SetsOneOf : EffectPlace → List Fact → ℕ → Type 0
SetsOneOf f facts effect = (fact : Fact) × Contains facts fact × SetsVariable f fact.var effect

module _ (f : EffectPlace) (kept : List Bool) (place : ℕ) where
  -- more effects are looked at, and those of them below the new lowest one may set none
  pub lowest_more : (Before After : ℕ → Type 0) (lowest new : ℕ) → IsLowestPartner f kept place Before lowest → new ≤ lowest
      → (new < length (operator_of f).effects → NotBothAt f kept new place → ⊥)
      → ((other : ℕ) → other < new → After other → Before other ⊎ NotBothAt f kept other place) → IsLowestPartner f kept place After new
  lowest_more Before After lowest new before lower may each = grind (arith, common_steps) steps 1500000

  -- the lower one of two
  pub lowest_of_two : (A B C : ℕ → Type 0) (a b c : ℕ) → IsLowestPartner f kept place A a → IsLowestPartner f kept place B b → c ≡ min a b
      → ((other : ℕ) → C other → A other ⊎ B other) → IsLowestPartner f kept place C c
  lowest_of_two A B C a b c la lb is either = record {
    within = let w = la.within in omega (arith, is);
    may = λ lt not_both. elim (one_of a b c is) [
      | inl e ↦ la.may (subst (λ n. n < length (operator_of f).effects) e lt) (subst (λ n. NotBothAt f kept n place) e not_both)
      | inr e ↦ lb.may (subst (λ n. n < length (operator_of f).effects) e lt) (subst (λ n. NotBothAt f kept n place) e not_both)
    ];
    below = λ other lt here. elim (either other here) [
      | inl x ↦ la.below other (omega (arith, is)) x
      | inr x ↦ lb.below other (omega (arith, is)) x
    ];
  }
    where
      one_of : (a b c : ℕ) → c ≡ min a b → (c ≡ a) ⊎ (c ≡ b)
      one_of a b c is = elim (cases_eq c a) [
        | inl e ↦ inl e
        | inr ne ↦ inr (omega (arith, is))
      ]

  module _ (effects : List ℕ) (n lowest : ℕ) (before : IsLowestPartner f kept place (Contains (take n effects)) lowest) where
    -- an effect of the first ones, or the next
    first_or_next : n < length effects → (other : ℕ) → Contains (take (n + 1) effects) other → Contains (take n effects) other ⊎ (get_or effects n 0 ≡ other)
    first_or_next within other among = Contains-push_cases (take n effects) (get_or effects n 0) other (rw (take_more effects n 0 within) at among)

    -- the next effect is lower, and may set one
    pub lower_found : n < length effects → get_or effects n 0 < lowest → (NotBothAt f kept (get_or effects n 0) place → ⊥)
        → IsLowestPartner f kept place (Contains (take (n + 1) effects)) (get_or effects n 0)
    lower_found within lower may = lowest_more (Contains (take n effects)) (Contains (take (n + 1) effects)) lowest (get_or effects n 0) before (omega arith)
        (λ lt. may) (λ other lt among. elim (first_or_next within other among) [ inl was ↦ inl was | inr is ↦ absurd (omega (arith, is)) ])

    -- the next effect isn't lower, or may set none
    pub none_lower : n < length effects → (get_or effects n 0 < lowest → NotBothAt f kept (get_or effects n 0) place)
        → IsLowestPartner f kept place (Contains (take (n + 1) effects)) lowest
    none_lower within not = lowest_more (Contains (take n effects)) (Contains (take (n + 1) effects)) lowest lowest before (omega arith) before.may (λ other lt among.
        elim (first_or_next within other among) [ inl was ↦ inl was | inr is ↦ inr (rw is at (not (omega (arith, is)))) ])

  module _ (facts : List Fact) (n : ℕ) (lowest : ℕ) (before : IsLowestPartner f kept place (SetsOneOf f (take n facts)) lowest) where
    first_or_next_fact : n < length facts → (fact : Fact) → Contains (take (n + 1) facts) fact → Contains (take n facts) fact ⊎ (get_or facts n fact ≡ fact)
    first_or_next_fact within fact among = Contains-push_cases (take n facts) (get_or facts n fact) fact (rw (take_more facts n fact within) at among)

    -- one fact more, by the effects on its variable
    pub one_more_fact : (d : Fact) (here new : ℕ) → n < length facts → IsLowestPartner f kept place (SetsVariable f (get_or facts n d).var) here → new ≡ min lowest here
        → IsLowestPartner f kept place (SetsOneOf f (take (n + 1) facts)) new
    one_more_fact d here new within on is = lowest_of_two (SetsOneOf f (take n facts)) (SetsVariable f (get_or facts n d).var)
        (SetsOneOf f (take (n + 1) facts)) lowest here new before on is (λ other (fact, among, its). elim (first_or_next_fact within fact among) [
          | inl was ↦ inl (fact, was, its)
          | inr same ↦ inr (its ∙ ap (λ (x : Fact). x.var) (sym same ∙ get_or_default facts n fact d within))
        ])

    -- one fact more, on the variable of an earlier one
    pub one_fact_more : n < length facts → IsOnVariableBefore facts n → IsLowestPartner f kept place (SetsOneOf f (take (n + 1) facts)) lowest
    one_fact_more within follows = lowest_more (SetsOneOf f (take n facts)) (SetsOneOf f (take (n + 1) facts)) lowest lowest before (omega arith)
        before.may (λ other lt sets_one. inl (was other sets_one))
      where
        was : (other : ℕ) → SetsOneOf f (take (n + 1) facts) other → SetsOneOf f (take n facts) other
        was other (fact, among, on) = elim (first_or_next_fact within fact among) [
          | inl there ↦ (fact, there, on)
          | inr same ↦ (let early = follows.early in
              let earlier = get_or facts follows.before fact in
              let among' = Contains-get_or (take n facts) follows.before fact (simp length-take (omega arith)) in (
                earlier,
                rw get_or-take at among',
                on ∙ sym (follows.same fact ∙ ap (λ (x : Fact). x.var) same),
              ))
        ]

    -- an effect that sets a fact of the group sets the variable of one of them
    pub all_facts_looked_at : length facts ≤ n → ((fact : Fact) → Contains (group_at f.task place) fact → Contains facts fact) → IsLowestPartner f kept place IsAny lowest
    all_facts_looked_at all same = record {
      within = before.within;
      may = before.may;
      below = λ other lt any has ne.
          let its = sets (effect_at (operator_of f) other) in
          before.below other lt (its, rw (take_all n facts all) (same its has), refl) has ne;
    }

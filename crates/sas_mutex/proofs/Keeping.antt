-- What an effect keeps if more or fewer groups are assumed.
use Rattle.sas_mutex.proofs.Imports.{common_steps, rules, ◌≡◌, ◌≢◌, ◌⊎◌, ℕ, ◌<◌, List, [], ◌∷◌, length, refl, sym, ap, inl, inr, arith, Contains, Contains-append_right, Contains-append_cases, All-contains, All-cons, All-nil, contains_none, Fact, Effect, Operator, Parts, effect_at, group_at, sets, Clash, known, clash_more, EffectKeeps, HasFactBeside}
use Rattle.sas_mutex.proofs.NotesOfFacts.{one_or_two}

-- what clashes where some groups count clashes where others do
module _ (Counts Others : List Fact → Type 0) (o : Operator) (group : List Fact) (e : Effect) where
  pub effect_keeps_by : ((other : ℕ) → other < length o.effects
      → Clash Counts (known o e.conditions (effect_at o other).conditions) → Clash Others (known o e.conditions (effect_at o other).conditions))
      → ((f : Fact) → Clash Counts (known o e.conditions (f ∷ [])) → Clash Others (known o e.conditions (f ∷ [])))
      → EffectKeeps Counts o group e → EffectKeeps Others o group e
  effect_keeps_by both one keeps = record {
    single = λ other lt hf ne. both other lt (keeps.single other lt hf ne);
    others = grind (arith, common_steps);
  }

  pub effect_keeps_more : ((g : List Fact) → Counts g → Others g) → EffectKeeps Counts o group e → EffectKeeps Others o group e
  effect_keeps_more more = search (rules, arith, effect_keeps_by, clash_more)

-- a list contains another fact than this one, or no other
pub other_or_none : (facts : List Fact) (fact : Fact) → ((other : Fact) × Contains facts other × (other ≢ fact)) ⊎ ((other : Fact) → Contains facts other → other ≡ fact)
other_or_none [] fact = inr (λ other there. absurd (contains_none other there))
other_or_none (f ∷ facts) fact = elim (one_or_two f fact) [
  | inr ne ↦ inl (f, (0, omega arith, refl), ne)
  | inl is ↦ elim (other_or_none facts fact) [
    | inl w ↦ inl (w.0, Contains-append_right (f ∷ []) facts w.0 w.1, w.2)
    | inr none ↦ inr (λ other there. elim (Contains-append_cases (f ∷ []) facts other there) [
      | inl here ↦ All-contains (λ (x : Fact). x ≡ fact) (f ∷ []) other (All-cons (λ (x : Fact). x ≡ fact) f [] is (All-nil (λ (x : Fact). x ≡ fact))) here
      | inr later ↦ none other later
    ])
  ]
]

-- an effect that sets the only fact of a group keeps it
pub keeps_only : (Counts : List Fact → Type 0) (o : Operator) (group : List Fact) (e : Effect) → ((f : Fact) → Contains group f → f ≡ sets e)
    → EffectKeeps Counts o group e
keeps_only Counts o group e only = record {
  single = λ other lt sets_too differ. absurd (differ (sym (ap (λ (f : Fact). f.var) (only (sets (effect_at o other)) sets_too))));
  others = λ f among differ. absurd (differ (sym (ap (λ (x : Fact). x.var) (only f among))));
}

-- so it is enough to look at other groups
pub keeps_if_beside : (p : Parts) (Counts : List Fact → Type 0) (o : Operator) (place : ℕ) (e : Effect) → place < length p.groups → Contains (group_at p place) (sets e)
    → (HasFactBeside p place (sets e) → EffectKeeps Counts o (group_at p place) e) → EffectKeeps Counts o (group_at p place) e
keeps_if_beside p Counts o place e exists has keeps = search (rules, arith, other_or_none, keeps_only)

-- The variables that are listed are all that a step may have changed.
use Rattle.sas_plan_reasons.proofs.Imports.{◌≡◌, ◌≢◌, ◌⊎◌, ℕ, zero, suc, ◌+◌, ◌<◌, ◌≤◌, List, [], ◌∷◌, ◌++◌, length, get_or, sym, ◌∙◌, subst, inl, inr, arith, cases_eq, cases_lt, get_or_past, length-append, All, All-nil, All-cons, All-push, All-weaker, All-append, Contains, Contains-append_left, Contains-append_right, Contains-push, All-permutation, Contains-permutation, IsPermutation, Operator, Effect, Parts, effect_at, layer_cases, ListsDerived, ListCoversChanges, ListsBelow}
use Rattle.sas_core.specs.Grounded.{no_effect}
use Rattle.sas_meaning.specs.Steps.{Step}

-- the same variables in another order
pub covers_permuted : (s s' xs ys : List ℕ) → IsPermutation xs ys → ListCoversChanges s s' xs → ListCoversChanges s s' ys
covers_permuted s s' xs ys same covers = record {
  exist = All-permutation (λ (var : ℕ). var < length s) xs ys same covers.exist;
  each = λ var. elim (covers.each var) [
    | inl equal ↦ inl equal
    | inr there ↦ inr (Contains-permutation xs ys var same there)
  ];
}

-- ---- values that differ

module _ (s s' : List ℕ) where
  pub lists_none : ListsBelow s s' 0 []
  lists_none = record { few = omega arith; exist = All-nil (λ (var : ℕ). var < 0); each = λ var lt. absurd (omega (arith, lt)) }

  -- where no value differs
  pub lists_same : (start end : ℕ) (listed : List ℕ) → start ≤ end → ListsBelow s s' start listed
      → ((k : ℕ) → start ≤ k → k < end → get_or s k 0 ≡ get_or s' k 0) → ListsBelow s s' end listed
  lists_same start end listed le below same = record {
    few = omega (arith, below.few);
    exist = All-weaker (λ (var : ℕ). var < start) (λ (var : ℕ). var < end) (λ var lt. omega (arith, lt)) listed below.exist;
    each = λ var lt. elim (cases_lt var start) [
      | inl early ↦ below.each var early
      | inr late ↦ inl (sym (same var late lt))
    ];
  }

  -- where the next one does
  pub lists_next : (var : ℕ) (listed : List ℕ) → ListsBelow s s' var listed → ListsBelow s s' (var + 1) (listed ++ var ∷ [])
  lists_next var listed below = record {
    few = omega (arith, below.few, length-append listed (var ∷ []));
    exist = All-push (λ (v : ℕ). v < var + 1) listed var (All-weaker (λ (v : ℕ). v < var) (λ (v : ℕ). v < var + 1) (λ v lt. omega (arith, lt)) listed below.exist) (omega arith);
    each = λ v lt. elim (cases_eq v var) [
      | inl is ↦ inr (subst (Contains (listed ++ var ∷ [])) (sym is) (Contains-push listed var))
      | inr other ↦ elim (below.each v (omega (arith, lt))) [
        | inl same ↦ inl same
        | inr there ↦ inr (Contains-append_left listed (var ∷ []) v there)
      ]
    ];
  }

  -- all of them
  pub lists_all : (listed : List ℕ) → length s' ≡ length s → ListsBelow s s' (length s) listed → ListCoversChanges s s' listed
  lists_all listed fits below = record {
    exist = below.exist;
    each = λ var. elim (cases_lt var (length s)) [
      | inl lt ↦ below.each var lt
      | inr past ↦ inl (get_or_past s' var 0 (omega (arith, fits)) ∙ sym (get_or_past s var 0 past))
    ];
  }

-- ---- effects

-- one of the effects is on the variable, or none is
on_one : (effects : List Effect) (var : ℕ) → ((k : ℕ) × (k < length effects) × ((get_or effects k no_effect).var ≡ var)) ⊎ All (λ (e : Effect). e.var ≢ var) effects
on_one [] var = inr (All-nil (λ (e : Effect). e.var ≢ var))
on_one (effect ∷ effects) var = elim (cases_eq effect.var var) [
  | inl is ↦ inl (zero, omega arith, is)
  | inr ne ↦ elim (on_one effects var) [
    | inl there ↦ inl (suc there.0, omega (arith, there.1), there.2)
    | inr none ↦ inr (All-cons (λ (e : Effect). e.var ≢ var) effect effects ne none)
  ]
]

-- a step changes variables of its effects, and the derived ones that are listed
pub lists_effects : (p : Parts) (s : List ℕ) (o : Operator) (s' effects derived : List ℕ) → length s ≡ length p.variables → Step p s o s'
    → All (λ (var : ℕ). var < length p.variables) effects → ((k : ℕ) → k < length o.effects → Contains effects (effect_at o k).var)
    → ListsDerived p s s' derived → ListCoversChanges s s' (effects ++ derived)
lists_effects p s o s' effects derived fits step exist each lists = record {
  exist = subst (λ n. All (λ (var : ℕ). var < n) (effects ++ derived)) (sym fits) (All-append (λ (var : ℕ). var < length p.variables) effects derived exist lists.exist);
  each = λ var. elim (layer_cases p var) [
    | inl basic ↦ elim (on_one o.effects var) [
      | inl there ↦ inr (Contains-append_left effects derived var (subst (Contains effects) there.2 (each there.0 there.1)))
      | inr none ↦ inl (step.kept var basic (λ k d lt fires. none k d lt))
    ]
    | inr on ↦ elim (lists.each on.0 var on.1) [
      | inl same ↦ inl same
      | inr there ↦ inr (Contains-append_right effects derived var there)
    ]
  ];
}

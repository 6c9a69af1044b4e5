-- The variables that an update has set are on its list.
use Rattle.sas_axioms.proofs.Imports.{ℕ, ◌<◌, List, [], ◌∷◌, ◌++◌, length, set, refl, sym, ◌∙◌, subst, inl, inr, cases_eq, get_or-set_other, All-nil, All-push, Contains, Contains-append_left, Contains-push, Parts, AddsChanged, ListsDerived}

module _ (p : Parts) where
  pub adds_none : (s list : List ℕ) → AddsChanged p s s list list
  adds_none s list = record { keeps = λ var there. there; exist = λ all. all; each = λ var. inl refl }

  -- one more variable is set
  pub adds_one : (s s1 list list1 : List ℕ) (var value : ℕ) → var < length p.variables → AddsChanged p s s1 list list1 → AddsChanged p s (set s1 var value) list (list1 ++ var ∷ [])
  adds_one s s1 list list1 var value lt adds = record {
    keeps = λ v there. Contains-append_left list1 (var ∷ []) v (adds.keeps v there);
    exist = λ all. All-push (λ (v : ℕ). v < length p.variables) list1 var (adds.exist all) lt;
    each = λ v. elim (cases_eq v var) [
      | inl is ↦ inr (subst (Contains (list1 ++ var ∷ [])) (sym is) (Contains-push list1 var))
      | inr other ↦ elim (adds.each v) [
        | inl same ↦ inl (get_or-set_other s1 var v value 0 other ∙ same)
        | inr there ↦ inr (Contains-append_left list1 (var ∷ []) v there)
      ]
    ];
  }

  -- more are set after these
  pub adds_both : (s s1 s2 list list1 list2 : List ℕ) → AddsChanged p s s1 list list1 → AddsChanged p s1 s2 list1 list2 → AddsChanged p s s2 list list2
  adds_both s s1 s2 list list1 list2 first then = record {
    keeps = λ var there. then.keeps var (first.keeps var there);
    exist = λ all. then.exist (first.exist all);
    each = λ var. elim (then.each var) [
      | inr there ↦ inr there
      | inl same ↦ elim (first.each var) [
        | inl was ↦ inl (same ∙ was)
        | inr there ↦ inr (then.keeps var there)
      ]
    ];
  }

  -- all of them
  pub lists_derived : (s s' list : List ℕ) → AddsChanged p s s' [] list → ListsDerived p s s' list
  lists_derived s s' list adds = record { exist = adds.exist (All-nil (λ (v : ℕ). v < length p.variables)); each = λ layer var on. adds.each var }

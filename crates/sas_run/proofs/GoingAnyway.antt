-- Steps that are made whether they fail or not: one more of them.
use Rattle.sas_run.proofs.Imports.{◌≡◌, ℕ, suc, ◌+◌, List, [], ◌∷◌, ◌++◌, refl, sym, ap, subst, inl, inr, Parts, Choice, Succeeds, Fails, MadeAnyway, GoOnAnyway}

module _ (p : Parts) (Means : ℕ → List ℕ → Choice → Type 0) (Lowest : ℕ → ℕ → Type 0) (first : ℕ) (s : List ℕ) (n step : ℕ) (at : first + n ≡ step) (failing there next : List ℕ)
    (gone : GoOnAnyway p Means Lowest first s n failing there) (made : MadeAnyway p Means Lowest step there next) where
  pub fails_more : Fails p Means step there → GoOnAnyway p Means Lowest first s (suc n) (failing ++ (step + 1) ∷ []) next
  fails_more fails = (
    failing,
    there,
    gone,
    subst (λ k. MadeAnyway p Means Lowest k there next) (sym at) made,
    inl (subst (λ k. Fails p Means k there) (sym at) fails, ap (λ k. failing ++ (k + 1) ∷ []) (sym at)),
  )

  pub succeeds_more : Succeeds p Means step there → GoOnAnyway p Means Lowest first s (suc n) failing next
  succeeds_more succeeds = (
    failing,
    there,
    gone,
    subst (λ k. MadeAnyway p Means Lowest k there next) (sym at) made,
    inr (subst (λ k. Succeeds p Means k there) (sym at) succeeds, refl),
  )

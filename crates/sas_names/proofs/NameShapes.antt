-- Shapes of names that are marked.
use Rattle.sas_names.proofs.Imports.{arith, ◌≡◌, ℕ, ◌<◌, ◌⊎◌, Bool, true, false, IsTrue, List, length, get_or, slice_set, Option, None, Some, refl, sym, subst, ◌∙◌, true≢false, cases_eq, get_or-set_same, get_or-set_other, StepNames, value_of, AreStepNames, step_names, shape_of}

-- a shape that is marked, or was marked before, is marked
pub marks : (shapes : List Bool) (shape k : ℕ) → shape < length shapes → (k ≡ shape) ⊎ IsTrue (get_or shapes k false)
    → IsTrue (get_or (slice_set shapes shape true) k false)
marks shapes shape k within was = grind (arith, cases_eq, get_or, slice_set, true, false, get_or-set_same, get_or-set_other)

-- a name whose shape isn't marked has no number
pub unmarked : (steps : List (List ℕ)) (names : StepNames) (name : List ℕ) → AreStepNames steps names
    → get_or names.shapes.items (shape_of name) false ≡ false → None ≡ value_of (step_names steps) names.numbers name
unmarked steps names name are other = by (value_of (step_names steps) names.numbers name) refl
  where
    by : (number : Option ℕ) → value_of (step_names steps) names.numbers name ≡ number → None ≡ value_of (step_names steps) names.numbers name
    by None is = sym is
    by (Some k) is =
        let marked : IsTrue (get_or names.shapes.items (shape_of name) false) =
        subst (λ n. IsTrue (get_or names.shapes.items (shape_of n) false)) (are.numbers.named name k is) (are.shapes k (are.numbers.below name k is)) in
        absurd (true≢false (sym marked ∙ other))

-- What is reported of each fault.
use Rattle.std.proofs.Common.{arith}
use Rattle.std.proofs.lemmas.Grind.{common_steps}
use Rattle.sas_plan_reasons.proofs.Imports.{◌≡◌, ℕ, ◌+◌, ◌<◌, Bool, true, false, not, List, [], ◌∷◌, ◌++◌, length, get_or, ◌∙◌, ap, subst, if◌then◌else◌, filter, slice_index, ne_eqb, eq-eqb, append-nil, filter-append, AllByRecursion, cases_Bool, Fact, Parts, cost_hint, cost_lines, cost_lines_sum, places_to, places_one_more, Line, Run, last_state, fails, PlanHistory, Explanation, IsBehind, IsExplanation, AddsLines, ExplainsOnce}
use Rattle.sas_plan_reasons.proofs.Once.{IsPlain, plain_lines}

-- ---- another cost

hint_plain : (metric : Bool) (cost steps sum : ℕ) → AllByRecursion IsPlain (cost_hint metric cost steps sum)
hint_plain true cost steps sum = grind (arith, common_steps, cases_Bool)
hint_plain false cost steps sum = grind (arith, common_steps, cases_Bool)

pub costs_reported : (p : Parts) (cost : ℕ) (run : Run) (lines : List Line) → lines ≡ cost_lines p cost run → ExplainsOnce lines (λ its. its ≡ cost_lines p cost run)
costs_reported p cost run lines are = grind (arith, cost_lines, plain_lines, hint_plain, length, cost_lines_sum)

-- ---- items that fail, one more

pub fails_when : (s : List ℕ) (f : Fact) → (slice_index s f.var ≡ f.value → ⊥) → fails s f ≡ true
fails_when s f ne = ap not (ne_eqb (slice_index s f.var) f.value ne)

pub holds_when : (s : List ℕ) (f : Fact) → slice_index s f.var ≡ f.value → fails s f ≡ false
holds_when s f e = ap not (eq-eqb (slice_index s f.var) f.value e)

pub one_more_fails : (s : List ℕ) (facts : List Fact) (f : Fact) → (slice_index s f.var ≡ f.value → ⊥) → filter (fails s) (facts ++ f ∷ []) ≡ filter (fails s) facts ++ f ∷ []
one_more_fails s facts f ne = filter-append (fails s) facts (f ∷ []) ∙ ap (λ b. filter (fails s) facts ++ (if b then f ∷ [] else [])) (fails_when s f ne)

pub one_more_holds : (s : List ℕ) (facts : List Fact) (f : Fact) → slice_index s f.var ≡ f.value → filter (fails s) (facts ++ f ∷ []) ≡ filter (fails s) facts
one_more_holds s facts f e = grind (arith, filter-append, fails, filter, holds_when, append-nil)

module _ {A : Type 0} (test : A → Bool) (k : ℕ) (items : List A) (d : A) (lt : k < length items) where
  pub place_more : test (get_or items k d) ≡ true → places_to test (k + 1) items ≡ places_to test k items ++ k ∷ []
  place_more is = places_one_more test k items d lt ∙ ap (λ b. places_to test k items ++ (if b then k ∷ [] else [])) is

  pub place_not : test (get_or items k d) ≡ false → places_to test (k + 1) items ≡ places_to test k items
  place_not is = places_one_more test k items d lt ∙ (ap (λ b. places_to test k items ++ (if b then k ∷ [] else [])) is ∙ append-nil (places_to test k items))

-- ---- what is reported of the last state

module _ (p : Parts) (history : PlanHistory) where
  pub at_last : (Are : Run → List ℕ → List Line → Type 0) (old new : Explanation)
      → AddsLines p history old new (λ run. Are run history.last) → AddsLines p history old new (λ run. Are run (last_state run))
  at_last Are old new adds run behind is = let w = adds run behind is in (w.0, subst (λ s. Are run s w.0) behind.last w.1, w.2, w.3)

  -- from a report without a line
  pub all_reported : (Are : Run → List Line → Type 0) (first last : Explanation) → IsExplanation p history.last first → first.lines ≡ [] → AddsLines p history first last Are
      → (run : Run) → IsBehind p history run → ExplainsOnce last.lines (Are run)
  all_reported Are first last is none adds run behind = grind (arith, common_steps)

-- The operators that are found for the names of steps.
use Rattle.sas_names.proofs.Imports.{◌≡◌, ◌≢◌, ℕ, suc, ◌+◌, ◌<◌, Bool, not, List, [], ◌∷◌, length, get_or, slice_set, Option, None, Some, is_some, bytes_eq, sym, ap, subst, refl, ◌∙◌, inl, inr, arith, common_steps, cases_Bool, cases_eq, get_or-set_same, get_or-set_other, length-set, get_or_default, bytes_eq-Decides, list_any_none, list_any_at, count_by, Operator, Parts, operator_at, StepNames, StepOperators, is_nameless, nameless_steps, IsNextNamed, IsLowestNamed, existing, AreFirsts, value_of, AreStepNames, step_names, AreChains, AreStepOperators}

-- an operator that exists
pub exists_is : (p : Parts) (number : ℕ) → number < length p.operators → existing p number ≡ Some number
exists_is p number lt = grind (arith, existing)

module _ (p : Parts) (steps : List (List ℕ)) (names : StepNames) (named : AreStepNames steps names) where
  -- one more step has the operator of its name
  module _ (found new : StepOperators) (are : AreChains p steps names found) (step : ℕ) (lt : step < length steps) (same : new.nexts ≡ found.nexts)
      (puts : new.firsts.items ≡ slice_set found.firsts.items step (get_or found.firsts.items (get_or names.of_steps.items step 0) 0)) where
    abbrev number : ℕ
    number = get_or names.of_steps.items step 0

    low : IsNextNamed p (get_or steps step []) 0 (existing p (get_or found.firsts.items number 0))
    low = are.first (get_or steps step []) number (named.each step (omega (arith, named.one_each)))

    here : get_or new.firsts.items step 0 ≡ get_or found.firsts.items number 0
    here = ap (λ firsts. get_or firsts step 0) puts ∙ get_or-set_same found.firsts.items step (get_or found.firsts.items number 0) 0 (omega (arith, are.one_each))

    there : (k : ℕ) → k ≢ step → get_or new.firsts.items k 0 ≡ get_or found.firsts.items k 0
    there k apart = ap (λ firsts. get_or firsts k 0) puts ∙ get_or-set_other found.firsts.items step k (get_or found.firsts.items number 0) 0 apart

    pub still_chains : AreChains p steps names new
    still_chains = grind (arith, length, length-set, get_or, cases_eq, here, low, there)

    pub one_more_first : ((k : ℕ) → k < step → IsNextNamed p (get_or steps k []) 0 (existing p (get_or found.firsts.items k 0)))
        → (k : ℕ) → k < step + 1 → IsNextNamed p (get_or steps k []) 0 (existing p (get_or new.firsts.items k 0))
    one_more_first before k below = grind (arith, cases_eq, get_or, here, low, there)

  -- all steps have theirs
  pub are_step_operators : (found : StepOperators) → AreChains p steps names found
      → ((k : ℕ) → k < length steps → IsNextNamed p (get_or steps k []) 0 (existing p (get_or found.firsts.items k 0)))
      → AreStepOperators p steps found.firsts.items found.nexts.items
  are_step_operators found are lowest = record {
    firsts = record { one_each = are.one_each; each = lowest };
    chains = λ step lt exists operator alike.
        let first = get_or found.firsts.items step 0 in
        let within : step < length steps = omega (arith, are.one_each) in
        let low : IsLowestNamed p (get_or steps step []) 0 first = subst (IsNextNamed p (get_or steps step []) 0) (exists_is p first exists) (lowest step within) in
        let same : (operator_at p operator).name ≡ get_or steps step [] = alike.named ∙ low.of_name.named in
        subst (λ n. IsNextNamed p n (operator + 1) (get_or found.nexts.items operator None)) alike.named
        (are.next operator (get_or names.of_steps.items step 0) alike.exists
        (ap (λ name. value_of (step_names steps) names.numbers name) same ∙ named.each step (omega (arith, named.one_each))));
  }

-- ---- names that no operator has

same_counts : {A B : Type 0} (f : A → Bool) (g : B → Bool) (xs : List A) (ys : List B) (a : A) (b : B) → length xs ≡ length ys
    → ((i : ℕ) → i < length xs → f (get_or xs i a) ≡ g (get_or ys i b)) → count_by f xs ≡ count_by g ys
same_counts f g [] [] a b same each = refl
same_counts f g [] (y ∷ ys) a b same each = absurd (omega (arith, same))
same_counts f g (x ∷ xs) [] a b same each = absurd (omega (arith, same))
same_counts f g (x ∷ xs) (y ∷ ys) a b same each =
    grind (arith, common_steps, each 0 (omega arith), same_counts f g xs ys a b (omega (arith, same)) (λ i lt. each (suc i) (omega (arith, lt))))

pub nameless_is : (p : Parts) (name : List ℕ) (first : Option ℕ) → IsNextNamed p name 0 first → not (is_some first) ≡ is_nameless p name
nameless_is p name None none = sym (ap not (list_any_none (λ (o : Operator). bytes_eq o.name name) p.operators (λ i d lt. elim (cases_Bool (bytes_eq (get_or p.operators i d).name name)) [
  | inl is ↦ absurd (none i (omega arith) (record { exists = lt; named = ap (λ (o : Operator). o.name) (get_or_default p.operators i _ d lt) ∙ (bytes_eq-Decides (get_or p.operators i d).name name).0 is }))
  | inr not_is ↦ not_is
])))
nameless_is p name (Some first) low = sym (ap not (list_any_at (λ (o : Operator). bytes_eq o.name name) p.operators first _ low.of_name.exists
    ((bytes_eq-Decides (operator_at p first).name name).1 low.of_name.named)))

-- so the steps without an operator are counted
pub nameless_counted : (p : Parts) (steps : List (List ℕ)) (firsts : List ℕ) → AreFirsts p steps firsts
    → count_by (λ (first : ℕ). not (is_some (existing p first))) firsts ≡ nameless_steps p steps
nameless_counted p steps firsts are =
    same_counts (λ (first : ℕ). not (is_some (existing p first))) (is_nameless p) firsts steps 0 [] are.one_each
    (λ i lt. nameless_is p (get_or steps i []) (existing p (get_or firsts i 0)) (are.each i (omega (arith, are.one_each))))

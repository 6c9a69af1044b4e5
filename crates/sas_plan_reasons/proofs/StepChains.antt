-- The operators of a run are those of the names of its steps.
use Rattle.sas_plan_reasons.proofs.Imports.{◌≡◌, ℕ, ◌+◌, ◌<◌, List, [], length, get_or, Option, None, refl, sym, ◌∙◌, ap, subst, arith, All, get_or-take, length-take, Parts, PlanParts, operator_at, IsLayered, IsNamed, IsNextNamed, IsLowestNamed, existing, IsChain, AreStepOperators, Run, IsRunOf, run_goes, HaveNoNamesakes}

-- if an operator has the name, the lowest one exists
lowest_exists : (p : Parts) (name : List ℕ) (first operator : ℕ) → IsNextNamed p name 0 (existing p first) → IsNamed p name operator → IsLowestNamed p name 0 first
lowest_exists p name first operator low named = grind (arith, existing)

-- the list has the next operators of the name of a step
chain_of : (p : Parts) (steps : List (List ℕ)) (firsts : List ℕ) (nexts : List (Option ℕ)) (k operator : ℕ) → AreStepOperators p steps firsts nexts → k < length steps
    → IsNamed p (get_or steps k []) operator → IsChain p operator nexts
chain_of p steps firsts nexts k operator are early named other on =
    subst (λ name. IsNextNamed p name (other + 1) (get_or nexts other None)) (sym same)
    (are.chains k (omega (arith, early, are.firsts.one_each)) low.of_name.exists other (subst (λ name. IsNamed p name other) same on))
  where
    first : ℕ
    first = get_or firsts k 0

    low : IsLowestNamed p (get_or steps k []) 0 first
    low = lowest_exists p (get_or steps k []) first operator (are.firsts.each k early) named

    same : (operator_at p operator).name ≡ (operator_at p first).name
    same = named.named ∙ sym low.of_name.named

module _ (p : Parts) (plan : PlanParts) (firsts : List ℕ) (nexts : List (Option ℕ)) (are : AreStepOperators p plan.steps firsts nexts) (layered : IsLayered p)
    (run : Run) (of : IsRunOf p plan run) (k : ℕ) (lt : k < length run.operators) where
  abbrev operator : ℕ
  operator = get_or run.operators k 0

  within : k < length run.steps
  within = (let through = of.through in omega (arith, lt, through.operators))

  early : k < length plan.steps
  early = omega (arith, within, ap length of.front, length-take (length run.steps) plan.steps)

  pub operator_named : IsNamed p (get_or plan.steps k []) operator
  operator_named =
      let goes = run_goes p run of.through layered k within in
      subst (λ name. IsNamed p name operator) (ap (λ names. get_or names k []) of.front ∙ get_or-take (length run.steps) plan.steps k [] within) goes.chosen.of_name

  pub operator_chain : IsChain p operator nexts
  operator_chain = chain_of p plan.steps firsts nexts k operator are early operator_named

-- an operator that has no next one has none of its name above it
pub none_above : (p : Parts) (plan : PlanParts) (firsts : List ℕ) (nexts : List (Option ℕ)) → AreStepOperators p plan.steps firsts nexts → IsLayered p → (run : Run) → IsRunOf p plan run
    → All (λ (operator : ℕ). get_or nexts operator None ≡ None) run.operators → HaveNoNamesakes p run.operators
none_above p plan firsts nexts are layered run of none k later lt above named =
    let operator = get_or run.operators k 0 in
    let named_so = operator_named p plan firsts nexts are layered run of k lt in
    subst (IsNextNamed p (operator_at p operator).name (operator + 1)) (none k 0 lt)
    (operator_chain p plan firsts nexts are layered run of k lt operator (record { exists = named_so.exists; named = refl })) later (omega (arith, above)) named

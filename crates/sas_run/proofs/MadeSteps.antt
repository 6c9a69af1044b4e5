-- The steps of a plan were made, by names or by numbers.
use Rattle.sas_run.proofs.Imports.{◌≡◌, ℕ, ◌≤◌, List, [], length, take, get_or, Option, None, Some, refl, sym, ◌∙◌, subst, inl, inr, arith, none-some, same_Some, take_all, length-take-le, get_or-take, same_lists, get_or_default, Parts, PlanParts, PlanFault, Valid, Choice, IsChosen, LeadsTo, IsChoice, IsFinalVerdict, IsSolution, IsFaultOrMemory, GoesThroughFrom, IsValidFrom, IsNumberChoice, IsFaultFromOrMemory, IsStuck, LeadsAsFar, FailsNext, EndsSteps, Makes, EndsPlan, IsSolutionBy, IsFaultByOrMemory, IsEnding}
use Rattle.sas_run.proofs.Endings.{stops_there, judged_there, ends_valid, ends_faulty}
use Rattle.std.specs.Option.{is_none}
use Rattle.sas_run.proofs.GoingByNumbers.{goes_front, leads_by_numbers}

-- ---- by names

module _ (p : Parts) (plan : PlanParts) where
  abbrev by_name : ℕ → List ℕ → Choice → Type 0
  by_name step s = IsChoice p s (get_or plan.steps step [])

  -- the steps that were made lead to this state
  leads : (operators s : List ℕ) → Makes p p.init by_name operators s → length operators ≤ length plan.steps → LeadsTo p (take (length operators) plan.steps) operators s
  leads operators s makes within = leads_by_numbers p (take (length operators) plan.steps) operators s (sym (length-take-le (length operators) plan.steps within))
      (λ step there lt through. subst (λ its. IsChosen p there its (get_or operators step 0)) (sym (get_or-take (length operators) plan.steps step [] lt)) (makes.each step there lt through))
      makes.through

  pub named_ending : (operators : List ℕ) (fault : Option PlanFault) → EndsPlan p p.init by_name (length plan.steps) plan.cost operators fault → IsEnding p plan operators fault
  named_ending operators fault ends = elim ends.ends [
    | inl stuck ↦
        let (why, is, next) = stuck in
        subst (λ f. IsEnding p plan operators f) (sym is) (stops_there p plan (length operators) next.0 operators ends.s (leads operators ends.s ends.makes (omega (arith, next.0))) why next.1)
    | inr done ↦
        let whole = take_all (length operators) plan.steps (omega (arith, done.0)) in
        judged_there p plan operators ends.s (subst (λ names. LeadsTo p names operators ends.s) whole (leads operators ends.s ends.makes (omega (arith, done.0)))) fault done.1
  ]

  pub named_valid : (valid : Valid) → IsSolutionBy p p.init by_name (length plan.steps) plan.cost valid → IsSolution p plan valid
  named_valid valid solution = record { valid = ends_valid p plan valid.operators.items (named_ending valid.operators.items None solution.ends); cost = solution.same }

  pub named_faulty : (fault : PlanFault) → IsFaultByOrMemory p p.init by_name (length plan.steps) plan.cost fault → IsFaultOrMemory p plan fault
  named_faulty fault faulty known = let (operators, ends) = faulty known in ends_faulty p plan operators fault (named_ending operators (Some fault) ends)

-- ---- by numbers

module _ (p : Parts) (start numbers : List ℕ) where
  abbrev pub by_number : ℕ → List ℕ → Choice → Type 0
  by_number step s = IsNumberChoice p s (get_or numbers step 0)

  -- the operators are the first of the numbers
  pub front : (operators s : List ℕ) → Makes p start by_number operators s → length operators ≤ length numbers → operators ≡ take (length operators) numbers
  front operators s makes within = same_lists operators (take (length operators) numbers) (sym (length-take-le (length operators) numbers within)) (λ step d lt.
      let there = goes_front p operators s step makes.through in
      get_or_default operators step d 0 lt
      ∙ ((makes.each step there.0 lt there.1).0
      ∙ (sym (get_or-take (length operators) numbers step 0 lt)
      ∙ get_or_default (take (length operators) numbers) step 0 d (omega (arith, length-take-le (length operators) numbers within)))))

  -- or all of them
  pub whole : (operators s : List ℕ) → Makes p start by_number operators s → length operators ≡ length numbers → operators ≡ numbers
  whole operators s makes all = front operators s makes (omega (arith, all)) ∙ take_all (length operators) numbers (omega (arith, all))

  -- the first of them lead to where one fails
  pub stuck_at : (operators s : List ℕ) (fault : PlanFault) → Makes p start by_number operators s → FailsNext p start by_number (length numbers) operators s fault
      → (stuck : IsStuck p start numbers fault) × (stuck.s ≡ s)
  stuck_at operators s fault makes next = (
    record {
      before = length operators;
      exists = next.0;
      s = s;
      through = subst (λ os. GoesThroughFrom p start os s) (front operators s makes (omega (arith, next.0))) makes.through;
      fails = next.1;
    },
    refl,
  )

  pub numbered_far : (operators s : List ℕ) (fault : Option PlanFault) → Makes p start by_number operators s → EndsSteps p start by_number (length numbers) operators s fault
      → LeadsAsFar p start numbers s (is_none fault)
  numbered_far operators s None makes ends = subst (λ os. GoesThroughFrom p start os s) (whole operators s makes ends) makes.through
  numbered_far operators s (Some fault) makes ends = let at = stuck_at operators s fault makes ends in (fault, at.0, at.1)

  pub numbered_faulty : (cost : ℕ) (fault : PlanFault) → IsFaultByOrMemory p start by_number (length numbers) cost fault → IsFaultFromOrMemory p start numbers cost fault
  numbered_faulty cost fault faulty known =
      let (operators, ends) = faulty known in
      elim ends.ends [
        | inl stuck ↦
            let (why, is, next) = stuck in
            inl (stuck_at operators ends.s fault ends.makes (subst (FailsNext p start by_number (length numbers) operators ends.s) (sym (same_Some fault why is)) next)).0
        | inr done ↦
            let all = whole operators ends.s ends.makes done.0 in
            inr (record {
              last = ends.s;
              through = subst (λ os. GoesThroughFrom p start os ends.s) all ends.makes.through;
              judged = subst (λ os. IsFinalVerdict p os ends.s cost (Some fault)) all done.1;
            })
      ]

  pub numbered_valid : (cost : ℕ) (valid : Valid) → IsSolutionBy p start by_number (length numbers) cost valid → IsValidFrom p start numbers cost
  numbered_valid cost valid solution =
      let ends = solution.ends in
      let operators = valid.operators.items in
      elim ends.ends [
        | inl stuck ↦ absurd (none-some stuck.0 stuck.1)
        | inr done ↦
            let all = whole operators ends.s ends.makes done.0 in
            let (goal, costs) = subst (λ os. IsFinalVerdict p os ends.s cost None) all done.1 in
            record { last = ends.s; through = subst (λ os. GoesThroughFrom p start os ends.s) all ends.makes.through; goal = goal; costs = costs }
      ]

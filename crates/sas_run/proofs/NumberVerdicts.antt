-- A plan by names is one by numbers. By numbers, too, a plan of a layered task is valid or has exactly one fault.
use Rattle.sas_run.proofs.Imports.{◌≡◌, ℕ, zero, suc, ◌+◌, ◌<◌, ◌≤◌, ◌⊎◌, List, length, take, get_or, get_or-take, length-take-le, take_more, slice_index, Option, None, Some, refl, sym, subst, inl, inr, arith, cases_eq, cases_lt, take_all, same_Some, none-some, Parts, operator_at, IsState, WellRanged, IsLayered, settled_exists, Step, PlanFault, NoOperator, NotApplicable, Conflict, GoalMissed, CostDiffers, IsValid, ValidByNumbers, SomeVerdictByNumbers, NumbersHaveNoFault, FaultByNumbersIsOne, AreChosen, cost_of_all, StepFailsBy, IsFinalVerdict, GoesThroughFrom, IsValidFrom, IsValidByNumbers, IsNumberChoice, IsStuck, IsFaultFrom}
use Rattle.sas_run.proofs.GoingByNumbers.{leads_by_numbers, leads_on_numbers, leads_as_many, leads_chosen, goes_none, goes_one_more, goes_one_way, goes_on}
use Rattle.sas_run.proofs.PlanVerdicts.{judged_one}
use Rattle.sas_run.proofs.Choosing.{applicable_or_not, hold_or_missed}
use Rattle.sas_run.proofs.NextStates.{step_or_conflict}
use Rattle.std.proofs.Math.Numerals.{add-one}
use Rattle.std.proofs.lemmas.List.{take-take}

pub valid_by_numbers : ValidByNumbers
valid_by_numbers p plan operators layered = (to, back)
  where
    to : IsValid p plan operators → AreChosen p plan.steps operators × IsValidByNumbers p operators plan.cost
    to v =
        let same = leads_as_many p plan.steps operators v.last v.leads in (
          record {
            one_each = same;
            each = λ k s lt through. leads_chosen p layered plan.steps operators v.last k s v.leads (omega (arith, lt, same)) through;
          },
          record { last = v.last; through = leads_on_numbers p plan.steps operators v.last v.leads; goal = v.goal; costs = v.cost },
        )

    back : AreChosen p plan.steps operators × IsValidByNumbers p operators plan.cost → IsValid p plan operators
    back (chosen, v) = record {
      last = v.last;
      leads = leads_by_numbers p plan.steps operators v.last chosen.one_each (λ k there lt through. chosen.each k there (omega (arith, lt, chosen.one_each)) through) v.through;
      goal = v.goal;
      cost = v.costs;
    }

-- an operator that fails has no step
fails_not_on : (p : Parts) (s : List ℕ) (number step : ℕ) (next : List ℕ) (fault : PlanFault) → StepFailsBy p (IsNumberChoice p s number) s step fault
    → number < length p.operators → Step p s (operator_at p number) next → ⊥
fails_not_on p s number step next h1 fails exists by = grind (arith, operator_at)

module _ (p : Parts) (start operators : List ℕ) (layered : IsLayered p) where
  stuck_not_through : (last : List ℕ) (fault : PlanFault) → GoesThroughFrom p start operators last → IsStuck p start operators fault → ⊥
  stuck_not_through last fault through stuck =
      let on = goes_on p layered operators last stuck.before stuck.s through stuck.exists stuck.through in
      fails_not_on p stuck.s (get_or operators stuck.before 0) (stuck.before + 1) on.1.0 fault stuck.fails on.0 on.1.1

  judged_not_other : (cost : ℕ) (a b : List ℕ) (x y : Option PlanFault) → GoesThroughFrom p start operators a → GoesThroughFrom p start operators b → IsFinalVerdict p operators a cost x → IsFinalVerdict p operators b cost y → x ≡ y
  judged_not_other cost a b x y g h is_x is_y =
      judged_one p operators b cost x y (subst (λ s. IsFinalVerdict p operators s cost x) (goes_one_way p layered operators a b g h) is_x) is_y

pub numbers_have_no_fault : NumbersHaveNoFault
numbers_have_no_fault p start operators cost fault layered valid (inl stuck) = stuck_not_through p start operators layered valid.last fault valid.through stuck
numbers_have_no_fault p start operators cost fault layered valid (inr missed) =
    none-some fault (judged_not_other p start operators layered cost valid.last missed.last None (Some fault) valid.through missed.through (valid.goal, valid.costs) missed.judged)

-- ---- one fault

-- an operator fails in one way
fails_one : (p : Parts) (s : List ℕ) (number step : ℕ) (a b : PlanFault) → StepFailsBy p (IsNumberChoice p s number) s step a → StepFailsBy p (IsNumberChoice p s number) s step b → a ≡ b
fails_one p s number step a b x y = grind arith

module _ (p : Parts) (start operators : List ℕ) (layered : IsLayered p) where
  -- none fails before another
  stuck_not_before : (a b : PlanFault) (x : IsStuck p start operators a) (y : IsStuck p start operators b) → x.before < y.before → ⊥
  stuck_not_before a b x y lt =
      let within : x.before < length (take y.before operators) = (let long = length-take-le y.before operators (omega (arith, y.exists)) in omega (arith, lt, long)) in
      let through = subst (λ os. GoesThroughFrom p start os x.s) (sym (take-take x.before y.before operators (omega (arith, lt)))) x.through in
      let on = goes_on p layered (take y.before operators) y.s x.before x.s y.through within through in
      let its : get_or (take y.before operators) x.before 0 ≡ get_or operators x.before 0 = get_or-take y.before operators x.before 0 lt in
      fails_not_on p x.s (get_or operators x.before 0) (x.before + 1) on.1.0 a x.fails
      (subst (λ n. n < length p.operators) its on.0) (subst (λ n. Step p x.s (operator_at p n) on.1.0) its on.1.1)

  stuck_one : (a b : PlanFault) → IsStuck p start operators a → IsStuck p start operators b → a ≡ b
  stuck_one a b x y = elim (cases_lt x.before y.before) [
    | inl lt ↦ absurd (stuck_not_before a b x y lt)
    | inr ge ↦ elim (cases_lt y.before x.before) [
      | inl lt ↦ absurd (stuck_not_before b a y x lt)
      | inr le ↦ at_one (omega arith)
    ]
  ]
    where
      at_one : x.before ≡ y.before → a ≡ b
      at_one same =
          let there : x.s ≡ y.s = goes_one_way p layered (take y.before operators) x.s y.s (subst (λ n. GoesThroughFrom p start (take n operators) x.s) same x.through) y.through in
          let fails = subst (λ s. StepFailsBy p (IsNumberChoice p s (get_or operators y.before 0)) s (y.before + 1) a) there
          (subst (λ n. StepFailsBy p (IsNumberChoice p x.s (get_or operators n 0)) x.s (n + 1) a) same x.fails) in
          fails_one p y.s (get_or operators y.before 0) (y.before + 1) a b fails y.fails

pub fault_by_numbers_is_one : FaultByNumbersIsOne
fault_by_numbers_is_one p start operators cost a b layered (inl x) (inl y) = stuck_one p start operators layered a b x y
fault_by_numbers_is_one p start operators cost a b layered (inl x) (inr y) = absurd (stuck_not_through p start operators layered y.last a y.through x)
fault_by_numbers_is_one p start operators cost a b layered (inr x) (inl y) = absurd (stuck_not_through p start operators layered x.last b x.through y)
fault_by_numbers_is_one p start operators cost a b layered (inr x) (inr y) =
    same_Some a b (judged_not_other p start operators layered cost x.last y.last (Some a) (Some b) x.through y.through x.judged y.judged)

-- ---- some verdict

module _ (p : Parts) (start : List ℕ) (ranged : WellRanged p) (layered : IsLayered p) (fits : IsState p.variables start) where
  -- an operator has a step in a state, or fails
  on_or_fails : (s : List ℕ) (number step : ℕ) → IsState p.variables s
      → ((number < length p.operators) × ((next : List ℕ) × Step p s (operator_at p number) next)) ⊎ ((fault : PlanFault) × StepFailsBy p (IsNumberChoice p s number) s step fault)
  on_or_fails s number step state = elim (cases_lt number (length p.operators)) [
    | inr ge ↦ inr (NoOperator step, (refl, λ exists. omega arith))
    | inl lt ↦ elim (applicable_or_not p s number) [
      | inr not_there ↦ inr (NotApplicable step, (refl, (lt, not_there)))
      | inl can ↦ elim (step_or_conflict p s number ranged layered state lt can) [
        | inl on ↦ inl (lt, on)
        | inr conflict ↦ inr (Conflict step number, (refl, (refl, lt, can), conflict))
      ]
    ]
  ]

  -- the first operators go through, or one fails
  gone : (operators : List ℕ) (k : ℕ) → k ≤ length operators → ((s : List ℕ) × GoesThroughFrom p start (take k operators) s × IsState p.variables s) ⊎ ((fault : PlanFault) × IsStuck p start operators fault)
  gone operators zero le = let i = settled_exists p start ranged layered fits in inl (i.0, goes_none p i.0 i.1, (i.1).state)
  gone operators (suc k) le = elim (gone operators k (omega arith)) [
    | inr f ↦ inr f
    | inl w ↦ elim (on_or_fails w.0 (get_or operators k 0) (k + 1) w.2) [
      | inl on ↦ inl (
        on.1.0,
        rw (← add-one k, take_more operators k 0 (omega arith)) (goes_one_more p (take k operators) w.0 (get_or operators k 0) on.1.0 w.1 on.0 on.1.1),
        (on.1.1).state,
      )
      | inr f ↦ inr (f.0, record { before = k; exists = omega arith; s = w.0; through = w.1; fails = f.1 })
    ]
  ]

  -- then the goal and the cost are judged
  judged : (operators : List ℕ) (cost : ℕ) (s : List ℕ) → GoesThroughFrom p start operators s → IsValidFrom p start operators cost ⊎ ((fault : PlanFault) × IsFaultFrom p start operators cost fault)
  judged operators cost s through = elim (hold_or_missed (slice_index s) p.goal) [
    | inr w ↦ inr (GoalMissed w.0, inr (record { last = s; through = through; judged = w.1 }))
    | inl goal ↦ elim (cases_eq (cost_of_all p operators) cost) [
      | inl same ↦ inl (record { last = s; through = through; goal = goal; costs = same })
      | inr other ↦ inr (CostDiffers (cost_of_all p operators), inr (record { last = s; through = through; judged = (goal, refl, other) }))
    ]
  ]

pub some_verdict_by_numbers : SomeVerdictByNumbers
some_verdict_by_numbers p start operators cost ranged layered fits = elim (gone p start ranged layered fits operators (length operators) (omega arith)) [
  | inl w ↦ judged p start ranged layered fits operators cost w.0 (subst (λ os. GoesThroughFrom p start os w.0) (take_all (length operators) operators (omega arith)) w.1)
  | inr f ↦ inr (f.0, inl f.1)
]

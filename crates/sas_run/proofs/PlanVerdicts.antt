-- A plan of a layered task is valid in one way, or has exactly one fault.
use Rattle.std.proofs.Math.Numerals.{add-one}
use Rattle.sas_run.proofs.Imports.{◌≡◌, ℕ, zero, suc, ◌+◌, ◌≤◌, ◌⊎◌, List, [], ◌∷◌, ◌++◌, length, take, get_or, slice_index, Option, None, Some, refl, sym, ◌∙◌, ap, inl, inr, arith, cases_eq, cases_lt, take_all, take_more, same_Some, Parts, PlanParts, IsState, WellRanged, IsLayered, initial_exists, PlanFault, Memory, NoOperator, NotApplicable, Conflict, GoalMissed, CostDiffers, SomeVerdict, ValidHasNoFault, ValidIsOne, FaultIsOne, LeadsTo, cost_of_all, IsValid, ComesTo, IsFaultOf, IsFinalVerdict}
use Rattle.sas_run.proofs.Choosing.{named_or_none, chosen_or_none, hold_or_missed, first_missed_is_one, none_missed}
use Rattle.sas_run.proofs.Determined.{chosen_is_one, GoesOn, leads_one_way, comes_on, comes_past, comes_one_way}
use Rattle.sas_run.proofs.Endings.{StepFails, stops_there, ends_faulty}
use Rattle.sas_run.proofs.Going.{leads_one_more}
use Rattle.sas_run.proofs.NextStates.{step_or_conflict}
use Rattle.sas_run.proofs.PlanStates.{leads_to_rest}

-- ---- a plan ends in one way

-- a name whose step fails has no step
fails_not_on : (p : Parts) (s name : List ℕ) (step : ℕ) (fault : PlanFault) → StepFails p s name step fault → GoesOn p s name → ⊥
fails_not_on p s name step fault fails on = grind (arith, chosen_is_one p s name)

-- it fails in one way
fails_one : (p : Parts) (s name : List ℕ) (step : ℕ) (a b : PlanFault) → StepFails p s name step a → StepFails p s name step b → a ≡ b
fails_one p s name step a b x y = grind (arith, chosen_is_one p s name)

-- after the last step there is one verdict
pub judged_one : (p : Parts) (operators s : List ℕ) (cost : ℕ) (a b : Option PlanFault) → IsFinalVerdict p operators s cost a → IsFinalVerdict p operators s cost b → a ≡ b
judged_one p operators s cost a b x y = grind (arith, none_missed (slice_index s) p.goal, first_missed_is_one (slice_index s) p.goal)

-- the plan has this fault, or is valid
abbrev IsVerdict : Parts → PlanParts → Option PlanFault → Type 0
IsVerdict p plan None = (operators : List ℕ) × IsValid p plan operators
IsVerdict p plan (Some fault) = IsFaultOf p plan fault

-- it ends at a step that fails
record StuckAt (p : Parts) (plan : PlanParts) (verdict : Option PlanFault) : Type 0 where
  step : ℕ
  s : List ℕ
  name : List ℕ
  fault : PlanFault
  is : verdict ≡ Some fault
  comes : ComesTo p plan.steps step s name
  fails : StepFails p s name step fault

-- or after its last step
record EndsAt (p : Parts) (plan : PlanParts) (verdict : Option PlanFault) : Type 0 where
  operators : List ℕ
  last : List ℕ
  leads : LeadsTo p plan.steps operators last
  judged : IsFinalVerdict p operators last plan.cost verdict

stuck_or_ended : (p : Parts) (plan : PlanParts) (verdict : Option PlanFault) → IsVerdict p plan verdict → StuckAt p plan verdict ⊎ EndsAt p plan verdict
stuck_or_ended p plan None v = inr (record { operators = v.0; last = v.1.last; leads = v.1.leads; judged = (v.1.goal, v.1.cost) })
stuck_or_ended p plan (Some (NoOperator step)) f = inl (record { step = step; s = f.0; name = f.1; fault = NoOperator step; is = refl; comes = f.2; fails = (refl, f.3) })
stuck_or_ended p plan (Some (NotApplicable step)) f = inl (record { step = step; s = f.0; name = f.1; fault = NotApplicable step; is = refl; comes = f.2; fails = (refl, (f.3, f.4)) })
stuck_or_ended p plan (Some (Conflict step operator)) f = inl (record { step = step; s = f.0; name = f.1; fault = Conflict step operator; is = refl; comes = f.2; fails = (refl, f.3, f.4) })
stuck_or_ended p plan (Some (GoalMissed index)) f = inr (record { operators = f.0; last = f.1; leads = f.2; judged = f.3 })
stuck_or_ended p plan (Some (CostDiffers sum)) f = inr (record { operators = f.0; last = f.1; leads = f.2; judged = (f.3, f.4, f.5) })
stuck_or_ended p plan (Some Memory) f = absurd f

module _ (p : Parts) (plan : PlanParts) (layered : IsLayered p) where
  stuck_one : (a b : Option PlanFault) → StuckAt p plan a → StuckAt p plan b → a ≡ b
  stuck_one a b x y = elim (cases_lt x.step y.step) [
    | inl lt ↦ absurd (fails_not_on p x.s x.name x.step x.fault x.fails (comes_past p layered plan.steps x.step y.step x.s y.s x.name y.name lt x.comes y.comes))
    | inr ge ↦ elim (cases_lt y.step x.step) [
      | inl lt ↦ absurd (fails_not_on p y.s y.name y.step y.fault y.fails (comes_past p layered plan.steps y.step x.step y.s x.s y.name x.name lt y.comes x.comes))
      | inr le ↦ at_one (omega arith)
    ]
  ]
    where
      at_one : x.step ≡ y.step → a ≡ b
      at_one same =
          let r = comes_one_way p layered plan.steps x.step y.step x.s y.s x.name y.name same x.comes y.comes in
          x.is ∙ (ap (λ fault. Some fault) (fails_one p y.s y.name y.step x.fault y.fault (rw (same, r.0, r.1) at x.fails) y.fails) ∙ sym y.is)

  stuck_not_led : (verdict : Option PlanFault) (operators last : List ℕ) → StuckAt p plan verdict → LeadsTo p plan.steps operators last → ⊥
  stuck_not_led verdict operators last x leads =
      fails_not_on p x.s x.name x.step x.fault x.fails (comes_on p layered plan.steps x.step x.s x.name operators last leads x.comes)

  ended_one : (a b : Option PlanFault) → EndsAt p plan a → EndsAt p plan b → a ≡ b
  ended_one a b x y =
      let r = leads_one_way p layered plan.steps x.operators y.operators x.last y.last x.leads y.leads in
      judged_one p y.operators y.last plan.cost a b (rw (r.0, r.1) at x.judged) y.judged

  verdict_one : (a b : Option PlanFault) → IsVerdict p plan a → IsVerdict p plan b → a ≡ b
  verdict_one a b f g = elim (stuck_or_ended p plan a f) [
    | inl x ↦ elim (stuck_or_ended p plan b g) [
      | inl y ↦ stuck_one a b x y
      | inr y ↦ absurd (stuck_not_led a y.operators y.last x y.leads)
    ]
    | inr x ↦ elim (stuck_or_ended p plan b g) [
      | inl y ↦ absurd (stuck_not_led b x.operators x.last y x.leads)
      | inr y ↦ ended_one a b x y
    ]
  ]

pub fault_is_one : FaultIsOne
fault_is_one p plan a b layered f g = same_Some a b (verdict_one p plan layered (Some a) (Some b) f g)

pub valid_is_one : ValidIsOne
valid_is_one p plan a b layered x y = (leads_one_way p layered plan.steps a b x.last y.last x.leads y.leads).0

pub valid_has_no_fault : ValidHasNoFault
valid_has_no_fault p plan operators fault layered valid f =
    let same : None ≡ Some fault = verdict_one p plan layered None (Some fault) (operators, valid) f in absurd cc

-- ---- a plan ends

module _ (p : Parts) (ranged : WellRanged p) (layered : IsLayered p) (plan : PlanParts) where
  -- a name has a step in a state, or its step fails
  on_or_fails : (s name : List ℕ) (step : ℕ) → IsState p.variables s → GoesOn p s name ⊎ ((fault : PlanFault) × StepFails p s name step fault)
  on_or_fails s name step state = elim (chosen_or_none p s name) [
    | inl w ↦ elim (step_or_conflict p s w.0 ranged layered state w.1.of_name.exists w.1.applicable) [
      | inl n ↦ inl (record { operator = w.0; chosen = w.1; next = n.0; step = n.1 })
      | inr none ↦ inr (Conflict step w.0, (refl, w.1, none))
    ]
    | inr none ↦ elim (named_or_none p name) [
      | inl w ↦ inr (NotApplicable step, (refl, (w, none)))
      | inr nowhere ↦ inr (NoOperator step, (refl, nowhere))
    ]
  ]

  -- the first steps are executable, or the plan has a fault
  gone : (k : ℕ) → k ≤ length plan.steps → ((operators s : List ℕ) × LeadsTo p (take k plan.steps) operators s) ⊎ ((fault : PlanFault) × IsFaultOf p plan fault)
  gone zero le = let i = initial_exists p ranged layered in inl ([], i.0, record { initial = i.0; starts = i.1; goes = refl })
  gone (suc k) le = elim (gone k (omega arith)) [
    | inr f ↦ inr f
    | inl w ↦ elim (on_or_fails w.1 (get_or plan.steps k []) (k + 1) (leads_to_rest p (take k plan.steps) w.0 w.1 w.2).0) [
      | inl on ↦ inl (
        w.0 ++ on.operator ∷ [],
        on.next,
        rw (← add-one k, take_more plan.steps k [] (omega arith))
            (leads_one_more p (take k plan.steps) w.0 w.1 (get_or plan.steps k []) on.operator on.next w.2 (record { chosen = on.chosen; step = on.step })),
      )
      | inr f ↦ inr (f.0, ends_faulty p plan w.0 f.0 (stops_there p plan k (omega arith) w.0 w.1 w.2 f.0 f.1))
    ]
  ]

-- after the last step the plan is valid, or has a fault
judged : (p : Parts) (plan : PlanParts) (operators last : List ℕ) → LeadsTo p plan.steps operators last → ((valid : List ℕ) × IsValid p plan valid) ⊎ ((fault : PlanFault) × IsFaultOf p plan fault)
judged p plan operators last leads = elim (hold_or_missed (slice_index last) p.goal) [
  | inr w ↦ inr (GoalMissed w.0, (operators, last, leads, w.1))
  | inl goal ↦ elim (cases_eq (cost_of_all p operators) plan.cost) [
    | inl same ↦ inl (operators, record { last = last; leads = leads; goal = goal; cost = same })
    | inr other ↦ inr (CostDiffers (cost_of_all p operators), (operators, last, leads, goal, refl, other))
  ]
]

pub some_verdict : SomeVerdict
some_verdict p plan ranged layered = elim (gone p ranged layered plan (length plan.steps) (omega arith)) [
  | inl w ↦ judged p plan w.0 w.1 (rw (take_all (length plan.steps) plan.steps (omega arith)) at w.2)
  | inr f ↦ inr f
]

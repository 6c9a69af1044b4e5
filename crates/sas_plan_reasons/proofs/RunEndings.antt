-- How a plan by numbers ends, and its run up to there.
use Rattle.sas_plan_reasons.proofs.Imports.{◌≡◌, ℕ, ◌-◌, ◌+◌, List, length, take, refl, sym, ◌∙◌, ap, subst, inl, inr, arith, Option, None, Some, Parts, PlanFault, Memory, NoOperator, NotApplicable, Conflict, GoalMissed, CostDiffers, EndsPlan, IsFinalVerdict, StepFailsBy, by_number, front, whole, stuck_at, some_run_from, Run, IsRunFrom, GoesThroughFrom}
use Rattle.sas_plan_reasons.specs.RunTraces.{operators_before, RunEndsFrom}

module _ (p : Parts) (start numbers : List ℕ) (cost : ℕ) where
  -- the operators before a step that fails
  before_step : (n step : ℕ) → step ≡ n + 1 → take n numbers ≡ take (step - 1) numbers
  before_step n step is = ap (λ k. take k numbers) (let e : n ≡ step - 1 = omega arith in e)

  before_stuck : (n : ℕ) (s : List ℕ) (fault : PlanFault) → StepFailsBy p (by_number p start numbers n s) s (n + 1) fault → take n numbers ≡ operators_before numbers fault
  before_stuck n s (NoOperator step) fails = before_step n step fails.0
  before_stuck n s (NotApplicable step) fails = before_step n step fails.0
  before_stuck n s (Conflict step operator) fails = before_step n step fails.0
  before_stuck n s (GoalMissed index) fails = absurd fails
  before_stuck n s (CostDiffers sum) fails = absurd fails
  before_stuck n s Memory fails = absurd fails

  -- those before a fault of the goal or the cost
  before_missed : (s : List ℕ) (fault : PlanFault) → IsFinalVerdict p numbers s cost (Some fault) → numbers ≡ operators_before numbers fault
  before_missed s (GoalMissed index) judged = refl
  before_missed s (CostDiffers sum) judged = refl
  before_missed s (NoOperator step) judged = absurd judged
  before_missed s (NotApplicable step) judged = absurd judged
  before_missed s (Conflict step operator) judged = absurd judged
  before_missed s Memory judged = absurd judged

  module _ (operators : List ℕ) where
    ends_by : (fault : Option PlanFault) (ends : EndsPlan p start (by_number p start numbers) (length numbers) cost operators fault) (run : Run) → run.operators ≡ operators → RunEndsFrom p start numbers cost run fault
    ends_by fault ends run same = elim ends.ends [
      | inl (why, is, next) ↦
          let first = front p start numbers operators ends.s ends.makes (omega (arith, next.0)) in
          subst (RunEndsFrom p start numbers cost run) (sym is)
          (inl (stuck_at p start numbers operators ends.s why ends.makes next).0, same ∙ (first ∙ before_stuck (length operators) ends.s why next.1))
      | inr (all, judged) ↦ judged_by fault ends run same (whole p start numbers operators ends.s ends.makes all) judged
    ]
      where
        judged_by : (fault : Option PlanFault) (ends : EndsPlan p start (by_number p start numbers) (length numbers) cost operators fault) (run : Run) → run.operators ≡ operators → operators ≡ numbers
            → IsFinalVerdict p operators ends.s cost fault → RunEndsFrom p start numbers cost run fault
        judged_by None ends run same all judged =
            let through = subst (λ os. GoesThroughFrom p start os ends.s) all ends.makes.through in
            let done = subst (λ os. IsFinalVerdict p os ends.s cost None) all judged in
            (record { last = ends.s; through = through; goal = done.0; costs = done.1 }, same ∙ all)
        judged_by (Some f) ends run same all judged =
            let through = subst (λ os. GoesThroughFrom p start os ends.s) all ends.makes.through in
            let done = subst (λ os. IsFinalVerdict p os ends.s cost (Some f)) all judged in
            (inr (record { last = ends.s; through = through; judged = done }), same ∙ (all ∙ before_missed ends.s f done))

    pub number_ending : (fault : Option PlanFault) → EndsPlan p start (by_number p start numbers) (length numbers) cost operators fault
        → (run : Run) × IsRunFrom p start run × (run.operators ≡ operators) × RunEndsFrom p start numbers cost run fault
    number_ending fault ends = let w = some_run_from p start operators ends.s ends.makes.through in (w.0, w.1, w.2, ends_by fault ends w.0 w.2)

-- An observer is told of the next step. Operators that go through are made once more.
use Rattle.sas_run.proofs.Imports.{◌≡◌, ℕ, ◌+◌, ◌<◌, List, [], ◌∷◌, ◌++◌, length, get_or, Option, None, Some, Ok, sym, ap, subst, ◌∙◌, arith, Parts, operator_at, IsLayered, Step, PlanFault, Memory, NoOperator, NotApplicable, Conflict, GoalMissed, CostDiffers, Choice, IsState, GoThrough, GoesThroughFrom, Makes, MakesStepBy, EndsSteps, StepFailsBy, IsTold, CanSee, ListsDerived, ListsLast, Vec}
use Rattle.sas_run.proofs.GoingByNumbers.{goes_one_more, goes_one_way, goes_on}
use Rattle.sas_run.proofs.MadeSteps.{by_number, front, whole}

module _ {O : Type 0} {Admits : O → Parts → ℕ → ℕ → Type 0} {Sees : Parts → List ℕ → O → O → List ℕ → Type 0} (p : Parts) (start : List ℕ) (Means : ℕ → List ℕ → Choice → Type 0) where
  -- one more step was made
  pub told_next : IsLayered p → (first now : O) (steps before : ℕ) (operators s : List ℕ) (operator : ℕ) (next : List ℕ) → CanSee Admits Sees p start Means steps first → Makes p start Means operators s
      → length operators ≡ before → before < steps → Sees p start first now operators → MakesStepBy p (Means before s) s (before + 1) next (Ok operator)
      → IsTold Admits Sees p start first operators now (before + 1) operator next
  told_next layered first now steps before operators s operator next can makes many lt sees (means, exists, step) = record {
    layered = layered;
    number = ap (λ n. n + 1) (sym many);
    through = goes_one_more p operators s operator next makes.through exists step;
    admits = can.each before operator s lt means;
    sees = sees;
  }

-- the derived variables that it changed are listed
pub lists_last : (p : Parts) (start : List ℕ) → IsLayered p → (before s next listed : List ℕ) → GoesThroughFrom p start before s → ListsDerived p s next listed → ListsLast p start before next listed
lists_last p start layered before s next listed through lists last goes = subst (λ z. ListsDerived p z next listed) (goes_one_way p layered before s last through goes) lists

-- ---- operators that are known to go through

module _ (p : Parts) (layered : IsLayered p) (start numbers last : List ℕ) (through : GoesThroughFrom p start numbers last) where
  -- none of them fails
  fails_not : (k : ℕ) (s : List ℕ) (step : ℕ) (fault : PlanFault) → (get_or numbers k 0 < length p.operators) × ((next : List ℕ) × Step p s (operator_at p (get_or numbers k 0)) next)
      → StepFailsBy p (by_number p start numbers k s) s step fault → ⊥
  fails_not k s step (NoOperator at) on fails = fails.1 on.0
  fails_not k s step (NotApplicable at) on fails = fails.1.1 on.1.1.applicable
  fails_not k s step (Conflict at operator) on fails = fails.2 (rw fails.1.0 on.1.1.agree)
  fails_not k s step (GoalMissed index) on fails = fails
  fails_not k s step (CostDiffers sum) on fails = fails
  fails_not k s step Memory on fails = fails

  -- so all are made
  pub all_made : (operators s : List ℕ) (fault : Option PlanFault) → Makes p start (by_number p start numbers) operators s → EndsSteps p start (by_number p start numbers) (length numbers) operators s fault
      → operators ≡ numbers
  all_made operators s None makes ends = whole p start numbers operators s makes ends
  all_made operators s (Some fault) makes ends =
      let there = subst (λ os. GoesThroughFrom p start os s) (front p start numbers operators s makes (omega (arith, ends.0))) makes.through in
      absurd (fails_not (length operators) s (length operators + 1) fault (goes_on p layered numbers last (length operators) s through ends.0 there) ends.1)

-- ---- the operators that a list notes

pub noted : (first now : Vec ℕ) (operators : List ℕ) → first.items ≡ [] → now.items ≡ first.items ++ operators → operators ≡ now.items
noted first now operators none is = sym (is ∙ ap (λ (l : List ℕ). l ++ operators) none)

-- ---- a state to which operators lead

go_state : (p : Parts) (s operators last : List ℕ) → IsState p.variables s → GoThrough p s operators last → IsState p.variables last
go_state p s [] last fits goes = subst (IsState p.variables) (sym goes) fits
go_state p s (o ∷ os) last fits (there, its, by, rest) = go_state p there os last by.state rest

pub goes_state : (p : Parts) {start : List ℕ} (operators s : List ℕ) → GoesThroughFrom p start operators s → IsState p.variables s
goes_state p operators s through = go_state p through.initial operators s through.starts.state through.goes

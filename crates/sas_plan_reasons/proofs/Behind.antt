-- What is known of a run that was retraced up to a fault.
use Rattle.std.specs.Option.{IfSome}
use Rattle.sas_plan_reasons.proofs.Imports.{◌≡◌, ℕ, zero, suc, rules, ◌-◌, ◌<◌, ◌≤◌, none-some, same_Some, Anyway, NotesAnywayIfAny, Follows, IsChoice, IsLowestNamed, step_at, AreNoted, FollowsAnyway, anyway_lines, length-append, NotApplicable, GoalMissed, CostDiffers, Memory, List, [], ◌∷◌, ◌++◌, length, take, get_or, Option, None, Some, refl, sym, ◌∙◌, ap, subst, inr, arith, append-nil, take-append_seam, Parts, PlanParts, operator_at, IsState, IsLayered, IsSettled, Agree, NoOperator, Conflict, IsNamed, LeadFrom, LeadsTo, ComesTo, IsFaultOf, leads_one_way, Line, Run, last_state, StepsSucceed, leads_to_last, PlanHistory, IsOtherIfAny, Retraces, ComesUnambiguously, IsBehind, ExplainsOnce, last_rests, AreCouldBeLines, AreFaultLines, AreAnywayLines, step_made, append_assoc, IsWhy, IsEnding, HaveNoNamesakes, PlanFault, nameless_lines, with_lines}

module _ (p : Parts) (plan : PlanParts) (history : PlanHistory) (run : Run) (r : Retraces p plan history run) where
  pub behind : IsBehind p history run
  behind =
      let rests = last_rests p run r.through in
      record {
        through = r.through;
        last = r.last;
        state = subst (IsState p.variables) (sym r.last) rests.0;
        settled = subst (IsSettled p) (sym r.last) rests.1;
        since = r.since;
      }

  pub last_is : history.last ≡ last_state run
  last_is = r.last

  pub operators_are : history.operators.items ≡ run.operators
  operators_are = r.operators

  pub operators_as_many : length run.operators ≡ length run.steps
  operators_as_many = let through = r.through in through.operators

  -- ---- why

  -- the lines of the fault, of what follows, and of another operator
  pub is_why : (lines later others new : List Line) → ExplainsOnce lines (AreFaultLines p plan run history.fault) → AreAnywayLines p plan run (step_made history.fault) later
      → AreCouldBeLines p run others → new ≡ (lines ++ later) ++ others → IsWhy p plan history.fault new
  is_why lines later others new reported follow may is = record {
    run = run;
    went = r.ends.1;
    through = r.through;
    reasons = reported.0;
    are = reported.1;
    later = later;
    follow = follow;
    others = others;
    may = may;
    whole = is ∙ (append_assoc lines later others ∙ ap (λ (front : List Line). front ++ (later ++ others)) reported.2);
  }

-- ---- no other operator

-- each step has the name of its operator
named_along : (p : Parts) (s : List ℕ) (names : List (List ℕ)) (operators last : List ℕ) → LeadFrom p s names operators last
    → (k : ℕ) → k < length names → IsNamed p (get_or names k []) (get_or operators k 0)
named_along p s [] operators last goes k lt = absurd (omega (arith, lt))
named_along p s (name ∷ names) [] last goes k lt = absurd goes
named_along p s (name ∷ names) (operator ∷ operators) last goes zero lt = (let chosen = goes.1 in chosen.of_name)
named_along p s (name ∷ names) (operator ∷ operators) last goes (suc k) lt = named_along p goes.0 names operators last goes.3 k (omega (arith, lt))

none_other : (p : Parts) (run : Run) → StepsSucceed p run → HaveNoNamesakes p run.operators → IsOtherIfAny p run None
none_other p run through none k operator is =
    let leads = leads_to_last p run through in
    let named = named_along p leads.initial run.steps run.operators (last_state run) leads.goes k is.exists in
    none k operator (omega (arith, is.exists, through.operators)) is.above (subst (λ name. IsNamed p name operator) (sym named.named) is.of_name)

-- the run that ends with the fault
pub comes_unambiguously : (p : Parts) (plan : PlanParts) (operators : List ℕ) (fault : PlanFault) (ending : IsEnding p plan operators (Some fault)) → HaveNoNamesakes p operators
    → ComesUnambiguously p plan fault ending.0
comes_unambiguously p plan operators fault ending none = grind (arith, none_other)

-- the reasons where no operator has the step's name
pub unknown_why : (p : Parts) (plan : PlanParts) (step : ℕ) (run : Run) (lines : List Line) → ComesUnambiguously p plan (NoOperator step) run
    → ExplainsOnce lines (λ its. its ≡ nameless_lines p plan) → IsWhy p plan (NoOperator step) lines
unknown_why p plan step run lines comes reported = record {
  run = run;
  went = comes.ends.1;
  through = comes.through;
  reasons = reported.0;
  are = reported.1;
  later = [];
  follow = refl;
  others = [];
  may = inr (comes.none, refl);
  whole = reported.2 ∙ sym (append-nil (with_lines [] reported.0));
}

-- ---- the state before a step

-- the steps before the one to which the plan comes lead to the last state of the run
pub comes_to_last : (p : Parts) (plan : PlanParts) (run : Run) (step : ℕ) (s name : List ℕ) → IsLayered p → StepsSucceed p run
    → run.steps ≡ take (step - 1) plan.steps → ComesTo p plan.steps step s name → s ≡ last_state run
comes_to_last p plan run step s name layered through is comes =
    (leads_one_way p layered comes.before comes.operators run.operators s (last_state run) comes.leads
    (subst (λ names. LeadsTo p names run.operators (last_state run)) same (leads_to_last p run through))).1
  where
    same : run.steps ≡ comes.before
    same = is ∙ (ap (λ n. take n plan.steps) (let place = comes.place in let e : step - 1 ≡ length comes.before = omega arith in e)
        ∙ (ap (λ (steps : List (List ℕ)). take (length comes.before) steps) comes.whole ∙ take-append_seam comes.before (name ∷ comes.behind)))

pub conflict_clashes : (p : Parts) (plan : PlanParts) (run : Run) (step operator : ℕ) → IsLayered p → StepsSucceed p run
    → run.steps ≡ take (step - 1) plan.steps → IsFaultOf p plan (Conflict step operator) → Agree (last_state run) (operator_at p operator).effects → ⊥
conflict_clashes p plan run step operator layered through is f agree =
    f.4 (subst (λ s. Agree s (operator_at p operator).effects) (sym (comes_to_last p plan run step f.0 f.1 layered through is f.2)) agree)

-- the step that is made anyway is one of the plan's
among : (p : Parts) (plan : PlanParts) (step : ℕ) (s name : List ℕ) → ComesTo p plan.steps step s name → (0 < step) × (step ≤ length plan.steps)
among p plan step s name comes =
    let place = comes.place in
    (omega (arith, place), omega (arith, place, ap length comes.whole, length-append comes.before (name ∷ comes.behind)))

pub made_exists : (p : Parts) (plan : PlanParts) (fault : PlanFault) → IsFaultOf p plan fault → IfSome (step_made fault) (λ step. (0 < step) × (step ≤ length plan.steps))
made_exists p plan (NotApplicable step) f = among p plan step f.0 f.1 f.2
made_exists p plan (Conflict step operator) f = among p plan step f.0 f.1 f.2
made_exists p plan (NoOperator step) f = search rules
made_exists p plan (GoalMissed index) f = search rules
made_exists p plan (CostDiffers sum) f = search rules
made_exists p plan Memory f = absurd f

-- the lines of what follows, where that is noted
pub noted_lines : (p : Parts) (plan : PlanParts) (run : Run) (step : Option ℕ) (noted : Option Anyway) (anyway : Anyway) (old new : List Line) → noted ≡ Some anyway
    → ((failing : List ℕ) → AreNoted failing anyway → new ≡ old ++ anyway_lines p (length plan.steps) anyway.step failing anyway.state)
    → NotesAnywayIfAny p plan run step noted → (more : List Line) × AreAnywayLines p plan run step more × (new ≡ old ++ more)
noted_lines p plan run None None anyway old new is lines notes = absurd (none-some anyway is)
noted_lines p plan run None (Some other) anyway old new is lines notes = absurd (none-some other (sym notes.1))
noted_lines p plan run (Some step) None anyway old new is lines notes = absurd (none-some anyway is)
noted_lines p plan run (Some step) (Some other) anyway old new is lines notes = at (same_Some other anyway is)
  where
    at : other ≡ anyway → (more : List Line) × AreAnywayLines p plan run (Some step) more × (new ≡ old ++ more)
    at same = (
      anyway_lines p (length plan.steps) step notes.failing other.state,
      (notes.failing, other.state, notes.follows, refl),
      lines notes.failing (subst (AreNoted notes.failing) same notes.noted)
          ∙ ap (λ (k : ℕ). old ++ anyway_lines p (length plan.steps) k notes.failing anyway.state) (ap (λ (a : Anyway). a.step) (sym same) ∙ notes.step)
          ∙ ap (λ (a : Anyway). old ++ anyway_lines p (length plan.steps) step notes.failing a.state) (sym same),
    )

-- what follows from the state and the step that are known
pub follows_there : (p : Parts) (plan : PlanParts) (run : Run) (number step : ℕ) (s failing last : List ℕ) → number ≡ step → s ≡ last_state run
    → Follows p (λ before t. IsChoice p t (step_at plan before)) (λ before. IsLowestNamed p (step_at plan before) 0) (length plan.steps) number s failing last
    → FollowsAnyway p plan run step failing last
follows_there p plan run number step s failing last same there follows =
    subst (λ k. Follows p (λ before t. IsChoice p t (step_at plan before)) (λ before. IsLowestNamed p (step_at plan before) 0) (length plan.steps) k (last_state run) failing last) same
    (subst (λ u. Follows p (λ before t. IsChoice p t (step_at plan before)) (λ before. IsLowestNamed p (step_at plan before) 0) (length plan.steps) number u failing last) there follows)

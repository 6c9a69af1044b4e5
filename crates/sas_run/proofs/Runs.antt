-- Executable steps are those of exactly one run. Laws about runs.
use Rattle.std.proofs.lemmas.Grind.{common_steps}
use Rattle.sas_run.proofs.Imports.{◌≡◌, ℕ, zero, suc, ◌+◌, ◌-◌, ◌<◌, ◌≤◌, List, [], ◌∷◌, ◌++◌, length, take, get_or, refl, sym, ◌∙◌, ap, subst, arith, All, take-append_seam, get_or-append_seam, same_lists, take_all, take_more, get_or_default, get_or-take, Parts, PlanParts, IsState, IsLayered, IsInitial, IsSettled, LeadFrom, LeadsTo, PlanFault, Memory, NoOperator, NotApplicable, Conflict, GoalMissed, CostDiffers, Run, state_at, last_state, StepsSucceed, IsRunFrom, names_of, operator_at, GoThrough, GoesThroughFrom, length-map, steps_before, ComesTo, IsFaultOf, SomeRun, OneRun}
use Rattle.sas_run.proofs.Determined.{leads_on, leads_one_way, initial_is_one}
use Rattle.sas_run.proofs.GoingByNumbers.{leads_on_numbers}
use Rattle.sas_run.proofs.Going.{MakesStep, leads_one_more, length_of_take}
use Rattle.sas_run.proofs.PlanStates.{leads_to_rest, leads_by}

-- the states to which steps from s lead
record Came (p : Parts) (s : List ℕ) (names : List (List ℕ)) (operators last : List ℕ) : Type 0 where
  states : List (List ℕ)
  one_more : length states ≡ length names + 1
  each : (k : ℕ) → k ≤ length names → LeadFrom p s (take k names) (take k operators) (get_or states k [])
  ends : get_or states (length names) [] ≡ last
  as_many : length operators ≡ length names

came : (p : Parts) (s : List ℕ) (names : List (List ℕ)) (operators last : List ℕ) → LeadFrom p s names operators last → Came p s names operators last
came p s [] [] last g = record {
  states = s ∷ [];
  one_more = refl;
  each = λ k le. at k (omega arith);
  ends = sym g;
  as_many = refl;
}
  where
    at : (k : ℕ) → k ≡ 0 → LeadFrom p s (take k []) (take k []) (get_or (s ∷ []) k [])
    at zero e = refl
    at (suc k) e = absurd (omega arith)
came p s [] (o ∷ os) last g = absurd g
came p s (n ∷ ns) [] last g = absurd g
came p s (n ∷ ns) (o ∷ os) last g = more (came p g.0 ns os last g.3)
  where
    more : Came p g.0 ns os last → Came p s (n ∷ ns) (o ∷ os) last
    more c = record {
      states = s ∷ c.states;
      one_more = (let e = c.one_more in omega arith);
      each = at;
      ends = c.ends;
      as_many = (let e = c.as_many in omega arith);
    }
      where
        at : (k : ℕ) → k ≤ length (n ∷ ns) → LeadFrom p s (take k (n ∷ ns)) (take k (o ∷ os)) (get_or (s ∷ c.states) k [])
        at zero le = refl
        at (suc k) le = (g.0, g.1, g.2, c.each k (omega arith))

pub some_run : SomeRun
some_run p steps operators last leads =
    let c = came p leads.initial steps operators last leads.goes in (
      record { steps = steps; operators = operators; states = c.states },
      record {
        operators = c.as_many;
        states = c.one_more;
        leads = λ k le. record { initial = leads.initial; starts = leads.starts; goes = c.each k le };
      },
      refl,
      refl,
      c.ends,
    )

abbrev made : List (List ℕ) → List ℕ → List (List ℕ) → Run
made steps operators states = record { steps = steps; operators = operators; states = states }

pub one_run : OneRun
one_run p a b layered x y same = ap (λ names. made names a.operators a.states) same
    ∙ (ap (λ os. made b.steps os a.states) operators ∙ ap (λ ss. made b.steps b.operators ss) states)
  where
    go_on : (k : ℕ) → k ≤ length a.steps → (take k a.operators ≡ take k b.operators) × (state_at a k ≡ state_at b k)
    go_on k le = leads_one_way p layered (take k a.steps) (take k a.operators) (take k b.operators) (state_at a k) (state_at b k) (x.leads k le)
        (subst (λ names. LeadsTo p (take k names) (take k b.operators) (state_at b k)) (sym same) (y.leads k (let e = ap length same in omega arith)))

    lengths : length a.steps ≡ length b.steps
    lengths = ap length same

    operators : a.operators ≡ b.operators
    operators = sym (take_all (length a.steps) a.operators (omega (arith, x.operators)))
        ∙ ((go_on (length a.steps) (omega arith)).0 ∙ take_all (length a.steps) b.operators (omega (arith, y.operators, lengths)))

    states : a.states ≡ b.states
    states = same_lists a.states b.states (omega (arith, x.states, y.states, lengths)) (λ k d lt.
        get_or_default a.states k d [] lt
        ∙ ((go_on k (omega (arith, x.states))).1
        ∙ get_or_default b.states k [] d (omega (arith, x.states, y.states, lengths))))

-- ---- its states and operators

-- the run of no steps
abbrev pub still : List ℕ → Run
still s = record { steps = []; operators = []; states = s ∷ [] }

pub still_goes : (p : Parts) (s : List ℕ) → IsInitial p s → StepsSucceed p (still s)
still_goes p s starts = grind (arith, common_steps)

module _ (p : Parts) (run : Run) (through : StepsSucceed p run) where
  -- each state is one of the task
  pub state_fits : (k : ℕ) → k ≤ length run.steps → IsState p.variables (state_at run k)
  state_fits k le = (leads_to_rest p (take k run.steps) (take k run.operators) (state_at run k) (through.leads k le)).0

  -- the first one is the initial state
  pub first_state : (s : List ℕ) → IsLayered p → IsInitial p s → s ≡ state_at run 0
  first_state s layered starts = grind (arith, initial_is_one)

  -- all steps lead to the last one
  pub leads_to_last : LeadsTo p run.steps run.operators (last_state run)
  leads_to_last = grind (arith, take_all, length)

  pub last_rests : IsState p.variables (last_state run) × IsSettled p (last_state run)
  last_rests = leads_to_rest p run.steps run.operators (last_state run) leads_to_last

  pub operators_exist : All (λ (o : ℕ). o < length p.operators) run.operators
  operators_exist = leads_by p run.steps run.operators (last_state run) leads_to_last

-- ---- a run by names is one by numbers

names_led : (p : Parts) (s : List ℕ) (names : List (List ℕ)) (operators last : List ℕ) → LeadFrom p s names operators last → names ≡ names_of p operators
names_led p s [] [] last goes = refl
names_led p s [] (o ∷ os) last goes = absurd goes
names_led p s (n ∷ ns) [] last goes = absurd goes
names_led p s (n ∷ ns) (o ∷ os) last (there, chosen, by, rest) =
    ap (λ (name : List ℕ). name ∷ ns) (sym chosen.of_name.named) ∙ ap (λ (names : List (List ℕ)). (operator_at p o).name ∷ names) (names_led p there ns os last rest)

pub run_from : (p : Parts) (run : Run) → StepsSucceed p run → IsRunFrom p p.init run
run_from p run through = record {
  operators = through.operators;
  states = through.states;
  leads = λ k le.
      let leads = through.leads k le in
      (leads_on_numbers p (take k run.steps) (take k run.operators) (state_at run k) leads, names_led p leads.initial (take k run.steps) (take k run.operators) (state_at run k) leads.goes);
}

-- ---- operators that go through are those of a run

-- the states to which they lead
record WentTo (p : Parts) (s operators last : List ℕ) : Type 0 where
  states : List (List ℕ)
  one_more : length states ≡ length operators + 1
  each : (k : ℕ) → k ≤ length operators → GoThrough p s (take k operators) (get_or states k [])
  ends : get_or states (length operators) [] ≡ last

went : (p : Parts) (s operators last : List ℕ) → GoThrough p s operators last → WentTo p s operators last
went p s [] last g = record { states = s ∷ []; one_more = refl; each = λ k le. at k (omega arith); ends = sym g }
  where
    at : (k : ℕ) → k ≡ 0 → GoThrough p s (take k []) (get_or (s ∷ []) k [])
    at zero e = refl
    at (suc k) e = absurd (omega arith)
went p s (o ∷ os) last g = more (went p g.0 os last g.3)
  where
    more : WentTo p g.0 os last → WentTo p s (o ∷ os) last
    more c = record { states = s ∷ c.states; one_more = (let e = c.one_more in omega arith); each = at; ends = c.ends }
      where
        at : (k : ℕ) → k ≤ length (o ∷ os) → GoThrough p s (take k (o ∷ os)) (get_or (s ∷ c.states) k [])
        at zero le = refl
        at (suc k) le = (g.0, g.1, g.2, c.each k (omega arith))

names_of_first : (p : Parts) (operators : List ℕ) (k : ℕ) → take k (names_of p operators) ≡ names_of p (take k operators)
names_of_first p operators zero = refl
names_of_first p [] (suc k) = refl
names_of_first p (o ∷ os) (suc k) = ap (λ (names : List (List ℕ)). (operator_at p o).name ∷ names) (names_of_first p os k)

pub some_run_from : (p : Parts) (start operators last : List ℕ) → GoesThroughFrom p start operators last → (run : Run) × IsRunFrom p start run × (run.operators ≡ operators) × (last_state run ≡ last)
some_run_from p start operators last through =
    let c = went p through.initial operators last through.goes in
    let many : length (names_of p operators) ≡ length operators = length-map operators (λ (o : ℕ). (operator_at p o).name) in (
      record { steps = names_of p operators; operators = operators; states = c.states },
      record {
        operators = sym many;
        states = c.one_more ∙ ap (λ n. n + 1) (sym many);
        leads = λ k le. (
          record { initial = through.initial; starts = through.starts; goes = c.each k (omega (arith, many)) },
          names_of_first p operators k,
        );
      },
      refl,
      ap (λ k. get_or c.states k []) many ∙ c.ends,
    )

-- ---- its steps

module _ (p : Parts) (run : Run) (through : StepsSucceed p run) (layered : IsLayered p) (k : ℕ) (lt : k < length run.steps) where
  abbrev name : List ℕ
  name = get_or run.steps k []

  leads_here : LeadsTo p (take k run.steps) (take k run.operators) (state_at run k)
  leads_here = through.leads k (omega arith)

  leads_there : LeadsTo p (take k run.steps ++ name ∷ []) (take (k + 1) run.operators) (state_at run (k + 1))
  leads_there = subst (λ names. LeadsTo p names (take (k + 1) run.operators) (state_at run (k + 1))) (take_more run.steps k [] lt) (through.leads (k + 1) (omega arith))

  -- a step from a state of the run leads to the next state of the run
  module _ (operator : ℕ) (next : List ℕ) (on : MakesStep p (state_at run k) name operator next) where
    same : (take (k + 1) run.operators ≡ take k run.operators ++ operator ∷ []) × (state_at run (k + 1) ≡ next)
    same = leads_one_way p layered (take k run.steps ++ name ∷ []) (take (k + 1) run.operators) (take k run.operators ++ operator ∷ []) (state_at run (k + 1)) next leads_there
        (leads_one_more p (take k run.steps) (take k run.operators) (state_at run k) name operator next leads_here on)

    same_operator : operator ≡ get_or run.operators k 0
    same_operator = grind (arith, common_steps, length, take, length_of_take, get_or, get_or-append_seam, same, get_or-take)

  -- each step leads, by its operator, to the next state
  pub run_goes : MakesStep p (state_at run k) name (get_or run.operators k 0) (state_at run (k + 1))
  run_goes =
      let on = leads_on p layered (take k run.steps) name [] (take (k + 1) run.operators) (state_at run (k + 1)) (take k run.operators) (state_at run k) leads_there leads_here in
      let goes : MakesStep p (state_at run k) name on.operator on.next = record { chosen = on.chosen; step = on.step } in
      subst (λ o. MakesStep p (state_at run k) name o (state_at run (k + 1))) (same_operator on.operator on.next goes)
      (subst (λ s. MakesStep p (state_at run k) name on.operator s) (sym (same on.operator on.next goes).1) goes)

-- ---- up to a fault

module _ (p : Parts) (plan : PlanParts) where
  -- the run up to the step that is reached
  to_step : (step : ℕ) (s name : List ℕ) → ComesTo p plan.steps step s name → (run : Run) × StepsSucceed p run × (run.steps ≡ take (step - 1) plan.steps)
  to_step step s name comes =
      let w = some_run p comes.before comes.operators s comes.leads in
      let place : length comes.before ≡ step - 1 = (let e = comes.place in omega arith) in (
        w.0,
        w.1,
        w.2 ∙ (sym (take-append_seam comes.before (name ∷ comes.behind))
            ∙ (ap (λ (steps : List (List ℕ)). take (length comes.before) steps) (sym comes.whole) ∙ ap (λ n. take n plan.steps) place)),
      )

  -- the run of the steps before a fault
  pub to_fault : (fault : PlanFault) → IsFaultOf p plan fault → (run : Run) × StepsSucceed p run × (run.steps ≡ steps_before plan fault)
  to_fault (NoOperator step) f = to_step step f.0 f.1 f.2
  to_fault (NotApplicable step) f = to_step step f.0 f.1 f.2
  to_fault (Conflict step operator) f = to_step step f.0 f.1 f.2
  to_fault (GoalMissed index) f = let w = some_run p plan.steps f.0 f.1 f.2 in (w.0, w.1, w.2)
  to_fault (CostDiffers sum) f = let w = some_run p plan.steps f.0 f.1 f.2 in (w.0, w.1, w.2)
  to_fault Memory f = absurd f

-- The fault of a plan has exactly one list of reasons, and the first step that may mean another
-- operator is unique, as is this operator.
use Rattle.sas_plan_reasons.proofs.Imports.{MayMean, ◌≡◌, ℕ, ◌+◌, ◌⊎◌, [], length, get_or, refl, sym, ◌∙◌, ap, inl, inr, arith, cases_lt, Parts, named_or_not, applicable_or_not, Run, state_at, IsOther, ◌-◌, ◌<◌, List, ◌∷◌, ◌++◌, take, subst, take-append_seam, filter, count_by, bytes_eq, Operator, PlanParts, step_at, operator_at, IsLayered, IsSettled, preconditions, places, PlanFault, Memory, NoOperator, NotApplicable, Conflict, GoalMissed, CostDiffers, LeadFrom, LeadsTo, ComesTo, IsFaultOf, Line, with_lines, LineThen, LinesOfEach, fails, IsCause, AreFailedPreconditionLines, AreConflictLines, AreGoalFactLines, cost_lines, AreCouldBeLines, AreFaultLines, IsWhy, last_state, StepsSucceed, steps_before, some_run, one_run, Option, Some, None, IsState, WellRanged, step_made, anyway_lines, AreAnywayLines, last_rests, follows_one, follows_some, names_decide}
use Rattle.sas_plan_reasons.proofs.Lowest.{are_lowest_one, some_are_lowest}
use Rattle.std.proofs.lemmas.Grind.{common_steps}
use Rattle.sas_plan_reasons.proofs.CauseLines.{some_cause, one_cause}
use Rattle.sas_plan_reasons.proofs.SomeConflict.{some_conflict, one_conflict}
use Rattle.sas_answers.specs.declared.line.Line.TheVariants as line

module _ (p : Parts) (run : Run) where
  other_or_not : (k operator : ℕ) → IsOther p run k operator ⊎ (IsOther p run k operator → ⊥)
  other_or_not k operator = elim (cases_lt k (length run.steps)) [
    | inr ge ↦ inr (λ is. let lt = is.exists in omega arith)
    | inl exists ↦ elim (cases_lt (get_or run.operators k 0) operator) [
      | inr ge ↦ inr (λ is. let lt = is.above in omega arith)
      | inl above ↦ elim (named_or_not p (get_or run.steps k []) operator) [
        | inr n ↦ inr (λ is. n is.of_name)
        | inl named ↦ elim (applicable_or_not p (state_at run k) operator) [
          | inr n ↦ inr (λ is. n is.applicable)
          | inl can ↦ inl (record { exists = exists; above = above; of_name = named; applicable = can })
        ]
      ]
    ]
  ]

pub some_may_mean : (p : Parts) (run : Run) → ((step operator : ℕ) × MayMean p run step operator) ⊎ ((k operator : ℕ) → IsOther p run k operator → ⊥)
some_may_mean p run = elim (some_are_lowest (IsOther p run) (other_or_not p run) (length run.steps) (length p.operators) (λ k n is. (is.exists, is.of_name.exists))) [
  | inl w ↦ inl (w.0 + 1, w.1, (w.0, refl, w.2))
  | inr none ↦ inr none
]

pub one_may_mean : (p : Parts) (run : Run) (step operator step' operator' : ℕ) → MayMean p run step operator → MayMean p run step' operator' → (step ≡ step')
    × (operator ≡ operator')
one_may_mean p run step operator step' operator' x y =
    let same = are_lowest_one (IsOther p run) x.0 operator y.0 operator' x.2 y.2 in
    (x.1 ∙ (ap (λ k. k + 1) same.0 ∙ sym y.1), same.1)

-- ---- the lines of each item

each_one : {A : Type 0} (Reports : A → List Line → Type 0) → ((item : A) (a b : List Line) → Reports item a → Reports item b → a ≡ b)
    → (items : List A) (a b : List Line) → LinesOfEach Reports items a → LinesOfEach Reports items b → a ≡ b
each_one Reports one [] a b x y = x ∙ sym y
each_one Reports one (item ∷ items) a b x y = grind (arith, common_steps, each_one Reports one items x.1 y.1 x.3 y.3)

some_each : {A : Type 0} (Reports : A → List Line → Type 0) → ((item : A) → (lines : List Line) × Reports item lines)
    → (items : List A) → (lines : List Line) × LinesOfEach Reports items lines
some_each Reports some [] = ([], refl)
some_each Reports some (item ∷ items) =
    let its = some item in
    let others = some_each Reports some items in
    (its.0 ++ others.0, (its.0, others.0, its.1, others.1, refl))

-- ---- at most one list

behind_one : (first : Line) (Reports : List Line → Type 0) → ((a b : List Line) → Reports a → Reports b → a ≡ b) → (a b : List Line)
    → LineThen first Reports a → LineThen first Reports b → a ≡ b
behind_one first Reports one a b x y = x.2 ∙ (ap (λ (behind : List Line). first ∷ behind) (one x.0 y.0 x.1 y.1) ∙ sym y.2)

module _ (p : Parts) (run : Run) where
  inapplicable_one : (operator : ℕ) (a b : List Line) → AreFailedPreconditionLines p run operator a → AreFailedPreconditionLines p run operator b → a ≡ b
  inapplicable_one operator = behind_one (line.Operator operator) _ (each_one (IsCause p run) (one_cause p run) (filter (fails (last_state run)) (preconditions (operator_at p operator))))

  goal_fact_one : (index : ℕ) (a b : List Line) → AreGoalFactLines p run index a → AreGoalFactLines p run index b → a ≡ b
  goal_fact_one index = behind_one (line.GoalFact index) _ (one_cause p run (get_or p.goal index (record { var = 0; value = 0 })))

  other_one : (a b : List Line) → AreCouldBeLines p run a → AreCouldBeLines p run b → a ≡ b
  other_one a b (inl x) (inl y) =
      let same = one_may_mean p run x.0 x.1 y.0 y.1 x.2 y.2 in
      x.3 ∙ (ap (λ (step : ℕ). line.CouldBe step x.1 ∷ []) same.0
      ∙ (ap (λ (operator : ℕ). line.CouldBe y.0 operator ∷ []) same.1 ∙ sym y.3))
  other_one a b (inl x) (inr y) = absurd (let (k, at, w) = x.2 in y.0 k x.1 w.lowest.has)
  other_one a b (inr x) (inl y) = absurd (let (k, at, w) = y.2 in x.0 k y.1 w.lowest.has)
  other_one a b (inr x) (inr y) = x.1 ∙ sym y.1

conflict_one : (p : Parts) (s : List ℕ) (operator : ℕ) (a b : List Line) → AreConflictLines p s operator a → AreConflictLines p s operator b → a ≡ b
conflict_one p s operator a b x y =
    let same = one_conflict s (operator_at p operator) x.0 x.1 y.0 y.1 x.2 y.2 in
    x.3 ∙ (ap (λ e. line.Operator operator ∷ line.ConflictingEffect operator x.1 ∷ line.ConflictingEffect operator e ∷ []) same.0
    ∙ (ap (λ d. line.Operator operator ∷ line.ConflictingEffect operator d ∷ line.ConflictingEffect operator y.0 ∷ []) same.1 ∙ sym y.3))

-- the line of how many goal facts fail
abbrev goal_line : Parts → Run → Line
goal_line p run = line.FailingGoalFacts (count_by (fails (last_state run)) p.goal) (length p.goal)

fault_lines_one : (p : Parts) (plan : PlanParts) (run : Run) (fault : PlanFault) (a b : List Line)
    → AreFaultLines p plan run fault a → AreFaultLines p plan run fault b → a ≡ b
fault_lines_one p plan run (NoOperator step) a b x y = x ∙ sym y
fault_lines_one p plan run (NotApplicable step) a b x y =
    behind_one (line.Step step) _ (each_one (AreFailedPreconditionLines p run) (inapplicable_one p run) (places (λ (o : Operator). bytes_eq o.name (step_at plan (step - 1))) p.operators)) a b x y
fault_lines_one p plan run (Conflict step operator) a b x y = behind_one (line.Step step) _ (conflict_one p (last_state run) operator) a b x y
fault_lines_one p plan run (GoalMissed index) a b x y = behind_one (goal_line p run) _ (each_one (AreGoalFactLines p run) (goal_fact_one p run) (places (fails (last_state run)) p.goal)) a b x y
fault_lines_one p plan run (CostDiffers sum) a b x y = x ∙ sym y
fault_lines_one p plan run Memory a b x y = absurd x

-- what follows if the step is made anyway
anyway_one : (p : Parts) (plan : PlanParts) (run : Run) → IsLayered p → (step : Option ℕ) (a b : List Line) → AreAnywayLines p plan run step a → AreAnywayLines p plan run step b → a ≡ b
anyway_one p plan run layered None a b x y = x ∙ sym y
anyway_one p plan run layered (Some step) a b (failing, last, follows, is) (failing', last', follows', is') =
    let many = length plan.steps in
    let same = follows_one p _ _ layered (names_decide p (step_at plan)) many step (last_state run) failing failing' last last' follows follows' in
    is ∙ (ap (λ (them : List ℕ). anyway_lines p many step them last) same.0 ∙ (ap (λ (s : List ℕ). anyway_lines p many step failing' s) same.1 ∙ sym is'))

pub one_why : (p : Parts) (plan : PlanParts) (fault : PlanFault) (a b : List Line) → IsLayered p → IsWhy p plan fault a → IsWhy p plan fault b → a ≡ b
one_why p plan fault a b layered x y = x.whole
    ∙ (ap (λ (reasons : List Line). with_lines [] reasons ++ (x.later ++ x.others)) (fault_lines_one p plan y.run fault x.reasons y.reasons are y.are)
    ∙ (ap (λ (later : List Line). with_lines [] y.reasons ++ (later ++ x.others)) (anyway_one p plan y.run layered (step_made fault) x.later y.later follow y.follow)
    ∙ (ap (λ (others : List Line). with_lines [] y.reasons ++ (y.later ++ others)) (other_one p y.run x.others y.others may y.may) ∙ sym y.whole)))
  where
    same : x.run ≡ y.run
    same = one_run p x.run y.run layered x.through y.through (x.went ∙ sym y.went)

    are : AreFaultLines p plan y.run fault x.reasons
    are = subst (λ run. AreFaultLines p plan run fault x.reasons) same x.are

    follow : AreAnywayLines p plan y.run (step_made fault) x.later
    follow = subst (λ run. AreAnywayLines p plan run (step_made fault) x.later) same x.follow

    may : AreCouldBeLines p y.run x.others
    may = subst (λ run. AreCouldBeLines p run x.others) same x.may

-- ---- at least one list

-- steps lead to settled states
goes_settled : (p : Parts) (s : List ℕ) (names : List (List ℕ)) (operators last : List ℕ) → IsSettled p s → LeadFrom p s names operators last → IsSettled p last
goes_settled p s [] [] last settled g = subst (IsSettled p) (sym g) settled
goes_settled p s [] (o ∷ os) last settled g = absurd g
goes_settled p s (n ∷ ns) [] last settled g = absurd g
goes_settled p s (n ∷ ns) (o ∷ os) last settled g = let step = g.2 in goes_settled p g.0 ns os last step.settled g.3

some_other : (p : Parts) (run : Run) → (lines : List Line) × AreCouldBeLines p run lines
some_other p run = elim (some_may_mean p run) [
  | inl w ↦ (line.CouldBe w.0 w.1 ∷ [], inl (w.0, w.1, w.2, refl))
  | inr none ↦ ([], inr (none, refl))
]

some_anyway : (p : Parts) (plan : PlanParts) (run : Run) → WellRanged p → IsLayered p → IsState p.variables (last_state run) → (step : Option ℕ) → (lines : List Line) × AreAnywayLines p plan run step lines
some_anyway p plan run ranged layered state None = ([], refl)
some_anyway p plan run ranged layered state (Some step) =
    let many = length plan.steps in
    let (failing, last, follows) = follows_some p _ _ layered (names_decide p (step_at plan)) ranged many step (last_state run) state in
    (anyway_lines p many step failing last, (failing, last, follows, refl))

module _ (p : Parts) (plan : PlanParts) (ranged : WellRanged p) (layered : IsLayered p) where
  -- the reasons after a run that leads to the fault
  from_run : (fault : PlanFault) (run : Run) → run.steps ≡ steps_before plan fault → StepsSucceed p run
      → ((lines : List Line) × AreFaultLines p plan run fault lines) → (lines : List Line) × IsWhy p plan fault lines
  from_run fault run went through are =
      let later = some_anyway p plan run ranged layered (last_rests p run through).0 (step_made fault) in
      let other = some_other p run in (
        with_lines [] are.0 ++ (later.0 ++ other.0),
        record { run = run; went = went; through = through; reasons = are.0; are = are.1; later = later.0; follow = later.1; others = other.0; may = other.1; whole = refl },
      )

  -- a run of these steps, and that its last state is settled
  record Led (steps : List (List ℕ)) (last : List ℕ) : Type 0 where
    run : Run
    went : run.steps ≡ steps
    through : StepsSucceed p run
    ends : last_state run ≡ last
    settled : IsSettled p (last_state run)
    some : 0 < length run.states

  led : (steps : List (List ℕ)) (operators last : List ℕ) → LeadsTo p steps operators last → Led steps last
  led steps operators last leads =
      let w = some_run p steps operators last leads in
      record {
        run = w.0;
        went = w.2;
        through = w.1;
        ends = w.4;
        settled = subst (IsSettled p) (sym w.4) (goes_settled p leads.initial steps operators last leads.starts.settled leads.goes);
        some = (let e = w.1.states in omega arith);
      }

  -- the steps before the one with the fault
  led_to_step : (step : ℕ) (s name : List ℕ) → ComesTo p plan.steps step s name → Led (take (step - 1) plan.steps) s
  led_to_step step s name comes = subst (λ steps. Led steps s) (sym is) (led comes.before comes.operators s comes.leads)
    where
      is : take (step - 1) plan.steps ≡ comes.before
      is = ap (λ n. take n plan.steps) (let place = comes.place in let e : step - 1 ≡ length comes.before = omega arith in e)
          ∙ (ap (λ (steps : List (List ℕ)). take (length comes.before) steps) comes.whole ∙ take-append_seam comes.before (name ∷ comes.behind))

  some_inapplicable : (run : Run) → IsSettled p (last_state run) → 0 < length run.states → (operator : ℕ) → (lines : List Line) × AreFailedPreconditionLines p run operator lines
  some_inapplicable run settled some operator =
      let causes = some_each (IsCause p run) (λ fact. some_cause p run fact some) (filter (fails (last_state run)) (preconditions (operator_at p operator))) in
      (line.Operator operator ∷ causes.0, (causes.0, causes.1, refl))

  some_goal_fact : (run : Run) → IsSettled p (last_state run) → 0 < length run.states → (index : ℕ) → (lines : List Line) × AreGoalFactLines p run index lines
  some_goal_fact run settled some index =
      let cause = some_cause p run (get_or p.goal index (record { var = 0; value = 0 })) some in
      (line.GoalFact index ∷ cause.0, (cause.0, cause.1, refl))

  some_why_of : (fault : PlanFault) → IsFaultOf p plan fault → (lines : List Line) × IsWhy p plan fault lines
  some_why_of Memory f = absurd f
  some_why_of (NoOperator step) f =
      let l = led_to_step step f.0 f.1 f.2 in
      from_run (NoOperator step) l.run l.went l.through (_, refl)
  some_why_of (NotApplicable step) f =
      let l = led_to_step step f.0 f.1 f.2 in
      let w = some_each (AreFailedPreconditionLines p l.run) (some_inapplicable l.run l.settled l.some) (places (λ (o : Operator). bytes_eq o.name (step_at plan (step - 1))) p.operators) in
      from_run (NotApplicable step) l.run l.went l.through (line.Step step ∷ w.0, (w.0, w.1, refl))
  some_why_of (Conflict step operator) f =
      let l = led_to_step step f.0 f.1 f.2 in
      let w = some_conflict (last_state l.run) (operator_at p operator) (λ agree. f.4 (subst (λ s. Rattle.sas_meaning.specs.Steps.Agree s (operator_at p operator).effects) l.ends agree)) in
      from_run (Conflict step operator) l.run l.went l.through (_, (_, (w.0, w.1, w.2, refl), refl))
  some_why_of (GoalMissed index) f =
      let l = led plan.steps f.0 f.1 f.2 in
      let w = some_each (AreGoalFactLines p l.run) (some_goal_fact l.run l.settled l.some) (places (fails (last_state l.run)) p.goal) in
      from_run (GoalMissed index) l.run l.went l.through (goal_line p l.run ∷ w.0, (w.0, w.1, refl))
  some_why_of (CostDiffers sum) f =
      let l = led plan.steps f.0 f.1 f.2 in
      from_run (CostDiffers sum) l.run l.went l.through (cost_lines p plan.cost l.run, refl)

pub some_why : (p : Parts) (plan : PlanParts) (fault : PlanFault) → WellRanged p → IsLayered p → IsFaultOf p plan fault → (lines : List Line) × IsWhy p plan fault lines
some_why p plan fault ranged layered f = some_why_of p plan ranged layered fault f

-- The run of the first steps of a run, and the one that is a step longer.
use Rattle.std.proofs.lemmas.Grind.{common_steps}
use Rattle.sas_plan_reasons.proofs.Imports.{◌≡◌, ◌≢◌, ℕ, ◌+◌, ◌<◌, ◌≤◌, List, [], ◌∷◌, ◌++◌, length, take, get_or, sym, ◌∙◌, ap, arith, cases_lt, take_all, take_more, take-take, length-take-le, get_or-take, get_or-append, get_or-append_seam, Parts, operator_at, IsLater, Run, state_at, last_state, StepsLead, value_at, IsSince, IsOther, MayMean}
use Rattle.std.proofs.Math.ListN.{length-append}

abbrev run_of : List (List ℕ) → List ℕ → List (List ℕ) → Run
run_of steps operators states = record { steps = steps; operators = operators; states = states }

-- one step more
abbrev pub one_more : Run → List ℕ → ℕ → List ℕ → Run
one_more run name operator next = run_of (run.steps ++ name ∷ []) (run.operators ++ operator ∷ []) (run.states ++ next ∷ [])

-- ---- the first steps

abbrev pub first_steps : Run → ℕ → Run
first_steps run k = run_of (take k run.steps) (take k run.operators) (take (k + 1) run.states)

module _ (p : Parts) {Lead : List (List ℕ) → List ℕ → List ℕ → Type 0} (run : Run) (through : StepsLead Lead run) where
  module _ (k : ℕ) (le : k ≤ length run.steps) where
    pub first_many : length (take k run.steps) ≡ k
    first_many = length-take-le k run.steps le

    pub first_goes : StepsLead Lead (first_steps run k)
    first_goes = grind (arith, common_steps, length-take-le, first_many, get_or-take, take-take)

    pub first_last : last_state (first_steps run k) ≡ state_at run k
    first_last = ap (λ n. get_or (take (k + 1) run.states) n []) first_many ∙ get_or-take (k + 1) run.states k [] (omega arith)

  -- one step more of them
  pub first_more : (k : ℕ) → k < length run.steps → first_steps run (k + 1) ≡ one_more (first_steps run k) (get_or run.steps k []) (get_or run.operators k 0) (state_at run (k + 1))
  first_more k lt = grind (arith, common_steps, take_more)

  -- and all of them
  pub first_all : first_steps run (length run.steps) ≡ run
  first_all = grind (arith, common_steps, take_all)

-- where there is one state, nothing has changed
pub none_since : (run : Run) (var : ℕ) → length run.states ≡ 1 → IsSince run var 0
none_since run var one = grind (arith, common_steps)

-- ---- one step more

module _ (p : Parts) {Lead : List (List ℕ) → List ℕ → List ℕ → Type 0} (run : Run) (through : StepsLead Lead run) (name : List ℕ) (operator : ℕ) (next : List ℕ) where
  abbrev longer : Run
  longer = one_more run name operator next

  pub one_step_more : length longer.steps ≡ length run.steps + 1
  one_step_more = length-append run.steps (name ∷ [])

  one_state_more : length longer.states ≡ length run.states + 1
  one_state_more = length-append run.states (next ∷ [])

  -- the states so far are the same
  pub same_state : (k : ℕ) → k ≤ length run.steps → state_at longer k ≡ state_at run k
  same_state k le = get_or-append run.states (next ∷ []) [] k (omega (arith, through.states))

  next_state : state_at longer (length run.steps + 1) ≡ next
  next_state = ap (λ k. get_or longer.states k []) (sym through.states) ∙ get_or-append_seam run.states next [] []

  -- ---- since when a variable has its value

  same_value : (var k : ℕ) → k ≤ length run.steps → value_at longer k var ≡ value_at run k var
  same_value var k le = ap (λ (s : List ℕ). get_or s var 0) (same_state k le)

  next_value : (var : ℕ) → value_at longer (length run.steps + 1) var ≡ get_or next var 0
  next_value var = ap (λ (s : List ℕ). get_or s var 0) next_state

  pub since_changed : (var : ℕ) → get_or (last_state run) var 0 ≢ get_or next var 0 → IsSince longer var (length run.steps + 1)
  since_changed var other = grind (arith, common_steps, one_state_more, same_value, next_value)

  pub since_unchanged : (var since : ℕ) → IsSince run var since → get_or (last_state run) var 0 ≡ get_or next var 0 → IsSince longer var since
  since_unchanged var since is same = grind (arith, one_state_more, same_value, cases_lt, length, value_at, next_value)

  -- ---- which other operator a step may mean

  same_name : (k : ℕ) → k < length run.steps → get_or longer.steps k [] ≡ get_or run.steps k []
  same_name k lt = get_or-append run.steps (name ∷ []) [] k lt

  same_operator : (k : ℕ) → k < length run.steps → get_or longer.operators k 0 ≡ get_or run.operators k 0
  same_operator k lt = get_or-append run.operators (operator ∷ []) 0 k (omega (arith, through.operators))

  -- a step of the run may mean what it may mean there
  other_longer : (k other : ℕ) → IsOther p run k other → IsOther p longer k other
  other_longer k other is = grind (arith, common_steps, one_step_more, same_operator, same_name, same_state)

  other_shorter : (k other : ℕ) → k < length run.steps → IsOther p longer k other → IsOther p run k other
  other_shorter k other lt is = grind (arith, common_steps, same_operator, same_name, same_state)

  pub may_mean_longer : (step other : ℕ) → MayMean p run step other → MayMean p longer step other
  may_mean_longer step other (k, at, may) = (
    k,
    at,
    record {
      first = record {
        has = (may.first.has.0, other_longer k may.first.has.0 may.first.has.1);
        first = λ lower lt h. may.first.first lower lt (h.0, other_shorter lower h.0 (let within = may.lowest.has.exists in omega arith) h.1);
      };
      lowest = record {
        has = other_longer k other may.lowest.has;
        first = λ lower lt h. may.lowest.first lower lt (other_shorter k lower may.lowest.has.exists h);
      };
    },
  )

  module _ (chosen : (operator_at p operator).name ≡ name) where
    place_of_operator : get_or longer.operators (length run.steps) 0 ≡ operator
    place_of_operator = ap (λ k. get_or longer.operators k 0) (sym through.operators) ∙ get_or-append_seam run.operators operator [] 0

    place_of_name : get_or longer.steps (length run.steps) [] ≡ name
    place_of_name = get_or-append_seam run.steps name [] []

    -- the last step may mean just the later operators
    later_is_other : (other : ℕ) → IsLater p (last_state run) operator other → IsOther p longer (length run.steps) other
    later_is_other other is = grind (arith, common_steps, one_step_more, place_of_operator, place_of_name, same_state)

    other_is_later : (other : ℕ) → IsOther p longer (length run.steps) other → IsLater p (last_state run) operator other
    other_is_later other is = grind (arith, common_steps, place_of_operator, place_of_name, same_state)

    module _ (none : (k other : ℕ) → IsOther p run k other → ⊥) where
      none_before : (k other : ℕ) → k < length run.steps → IsOther p longer k other → ⊥
      none_before k other lt is = none k other (other_shorter k other lt is)

      pub still_none : ((later : ℕ) → IsLater p (last_state run) operator later → ⊥) → (k other : ℕ) → IsOther p longer k other → ⊥
      still_none not k other is = grind (arith, common_steps, cases_lt, none_before, one_step_more, other_is_later)

      pub may_mean_now : (other : ℕ) → IsLater p (last_state run) operator other
          → ((lower : ℕ) → lower < other → IsLater p (last_state run) operator lower → ⊥) → MayMean p longer (length run.steps + 1) other
      may_mean_now other is first = grind (arith, length, later_is_other, none_before, other_is_later)

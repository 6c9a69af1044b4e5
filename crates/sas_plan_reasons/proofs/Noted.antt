-- What is noted of a run, step by step.
use Rattle.sas_meaning.specs.Steps.{Step}
use Rattle.sas_plan_reasons.proofs.Imports.{◌≡◌, ℕ, zero, suc, ◌+◌, ◌<◌, ◌≤◌, List, [], ◌∷◌, ◌++◌, length, take, get_or, Option, Some, None, refl, sym, ◌∙◌, ap, subst, inl, inr, arith, cases_eq, same_lists, get_or_default, take_all, take-append_seam, get_or-append_seam, length-append, Parts, operator_at, IsLayered, Settles, IsLaterIfAny, Run, state_at, last_state, StepsLead, IsRunFrom, names_of, GoesThroughFrom, goes_one_way, goes_one_more, goes_on, goes_none, IsSince, MayMean, Changes, Historian, OtherOperator, AreFirstChanges, Notes, IsOtherIfAny, HaveSince, AddsOther, HasNoted, CanList, is_some, true, false, false≢true}
use Rattle.sas_plan_reasons.proofs.LongerRuns.{first_steps, first_many, first_goes, first_last, first_more, first_all, none_since, one_more, since_changed, since_unchanged, may_mean_longer, still_none, may_mean_now}

-- ---- which other operator is noted

module _ (p : Parts) (s : List ℕ) (operator step : ℕ) (noted : Option OtherOperator) where
  pub adds_same : is_some noted ≡ true → AddsOther p s operator step noted noted
  adds_same is = grind (arith, false≢true)

  pub adds_none : is_some noted ≡ false → IsLaterIfAny p s operator None → AddsOther p s operator step noted noted
  adds_none is none = grind (arith, false≢true)

  pub adds_now : (other : OtherOperator) → is_some noted ≡ false → other.step ≡ step → IsLaterIfAny p s operator (Some other.operator) → AddsOther p s operator step noted (Some other)
  adds_now other is at later = grind (arith, false≢true)

-- ---- one step more

-- the step is noted for all variables
abbrev pub NotesChanges : ℕ → List ℕ → Changes → Changes → Type 0
NotesChanges step s old new = Notes step s (λ (var : ℕ). var < length s) old new

-- the values of the variables are those of the state
values_are : (step : ℕ) (s : List ℕ) (old new : Changes) → NotesChanges step s old new → new.values ≡ s
values_are step s old new notes = same_lists new.values s notes.places.values (λ k d lt.
    get_or_default new.values k d 0 lt
    ∙ ((notes.these k (omega (arith, notes.places.values))).value
    ∙ get_or_default s k 0 d (omega (arith, notes.places.values))))

module _ (p : Parts) {Lead : List (List ℕ) → List ℕ → List ℕ → Type 0} (run : Run) (through : StepsLead Lead run) (name : List ℕ) (operator : ℕ) (next : List ℕ) where
  -- since when each variable has its value there
  since_longer : (old new : Changes) → old.values ≡ last_state run → length next ≡ length p.variables
      → NotesChanges (length run.steps + 1) next old new → HaveSince p run old.since.items → HaveSince p (one_more run name operator next) new.since.items
  since_longer old new before fits notes have = record {
    one_each = notes.places.since ∙ fits;
    each = λ var lt. elim (cases_eq (get_or (last_state run) var 0) (get_or next var 0)) [
      | inl same ↦
          let noted = notes.these var (omega (arith, fits)) in
          subst (IsSince (one_more run name operator next) var)
          (sym (noted.unchanged (ap (λ (vs : List ℕ). get_or vs var 0) before ∙ same)))
          (since_unchanged p run through name operator next var (get_or old.since.items var 0) (have.each var lt) same)
      | inr other ↦
          let noted = notes.these var (omega (arith, fits)) in
          subst (IsSince (one_more run name operator next) var)
          (sym (noted.changed (λ same. other (sym (ap (λ (vs : List ℕ). get_or vs var 0) before) ∙ same))))
          (since_changed p run through name operator next var other)
    ];
  }

  -- which other operator the steps may mean with the next one
  module _ (named : (operator_at p operator).name ≡ name) (step : ℕ) (at : step ≡ length run.steps + 1) where
    other_longer : (noted noted' : Option OtherOperator) → IsOtherIfAny p run noted → AddsOther p (last_state run) operator step noted noted'
        → IsOtherIfAny p (one_more run name operator next) noted'
    other_longer (Some other) noted' may adds =
        subst (IsOtherIfAny p (one_more run name operator next)) (sym adds) (may_mean_longer p run through name operator next other.step other.operator may)
    other_longer None None none adds = still_none p run through name operator next named none adds
    other_longer None (Some other) none adds =
        subst (λ k. MayMean p (one_more run name operator next) k other.operator) (sym (adds.0 ∙ at))
        (may_mean_now p run through name operator next named none other.operator adds.1.0 adds.1.1)

-- ---- runs, by their operators

module _ (p : Parts) (layered : IsLayered p) {start : List ℕ} (run : Run) (through : IsRunFrom p start run) where
  -- the first operators of a run lead to one state, that of the run
  pub state_after : (operators s : List ℕ) → operators ≡ take (length operators) run.operators → length operators ≤ length run.steps → GoesThroughFrom p start operators s
      → state_at run (length operators) ≡ s
  state_after operators s front le goes =
      let n = length operators in
      goes_one_way p layered operators (state_at run n) s (subst (λ os. GoesThroughFrom p start os (state_at run n)) (sym front) (through.leads n le).0) goes

-- ---- a step of a run, by its operators

-- a step has the name of its operator
name_at : (p : Parts) (steps : List (List ℕ)) (operators : List ℕ) (k : ℕ) → k < length operators → steps ≡ names_of p operators → get_or steps k [] ≡ (operator_at p (get_or operators k 0)).name
name_at p steps operators k lt are = ap (λ (names : List (List ℕ)). get_or names k []) are ∙ at operators k lt
  where
    at : (os : List ℕ) (i : ℕ) → i < length os → get_or (names_of p os) i [] ≡ (operator_at p (get_or os i 0)).name
    at [] i lt = absurd (omega arith)
    at (o ∷ os) zero lt = refl
    at (o ∷ os) (suc i) lt = at os i (omega arith)

module _ (p : Parts) (layered : IsLayered p) {start : List ℕ} (before : List ℕ) (s : List ℕ) (goes : GoesThroughFrom p start before s) (operator : ℕ) (next : List ℕ) (there : GoesThroughFrom p start (before ++ operator ∷ []) next) where
  abbrev more : List ℕ
  more = before ++ operator ∷ []

  abbrev k : ℕ
  k = length before

  one_longer : length more ≡ k + 1
  one_longer = length-append before (operator ∷ [])

  front : take k more ≡ before
  front = take-append_seam before (operator ∷ [])

  its_operator : get_or more k 0 ≡ operator
  its_operator = get_or-append_seam before operator [] 0

  -- the operator makes the step
  pub step_there : (operator < length p.operators) × Step p s (operator_at p operator) next
  step_there =
      let on = rw its_operator at (goes_on p layered more next k s there (omega (arith, one_longer)) (subst (λ os. GoesThroughFrom p start os s) (sym front) goes)) in
      let same = goes_one_way p layered more on.1.0 next (goes_one_more p before s operator on.1.0 goes on.0 on.1.1) there in
      (on.0, subst (Step p s (operator_at p operator)) same on.1.1)

  module _ (run : Run) (through : IsRunFrom p start run) (is : run.operators ≡ more) where
    many : length run.steps ≡ k + 1
    many = sym through.operators ∙ (ap length is ∙ one_longer)

    within : k < length run.steps
    within = omega (arith, many)

    -- the run before
    abbrev pub sofar : Run
    sofar = first_steps run k

    pub sofar_goes : IsRunFrom p start sofar
    sofar_goes = first_goes p run through k (omega (arith, within))

    pub sofar_is : sofar.operators ≡ before
    sofar_is = ap (take k) is ∙ front

    pub sofar_last : last_state sofar ≡ s
    sofar_last = first_last p run through k (omega (arith, within)) ∙ state_after p layered run through before s (sym sofar_is) (omega (arith, within)) goes

    pub sofar_many : length sofar.steps ≡ k
    sofar_many = first_many p run through k (omega (arith, within))

    whole : more ≡ take (length more) run.operators
    whole = sym (ap (take (length more)) is ∙ take_all (length more) more (omega arith))

    state_behind : state_at run (k + 1) ≡ next
    state_behind = ap (state_at run) (sym one_longer) ∙ state_after p layered run through more next whole (omega (arith, many, one_longer)) there

    abbrev pub its_name : List ℕ
    its_name = get_or run.steps k []

    its : get_or run.operators k 0 ≡ operator
    its = ap (λ os. get_or os k 0) is ∙ its_operator

    pub named_so : (operator_at p operator).name ≡ its_name
    named_so = ap (λ o. (operator_at p o).name) (sym its) ∙ sym (name_at p run.steps run.operators k (omega (arith, within, through.operators))
        (sym (take_all (length run.steps) run.steps (omega arith)) ∙ ((through.leads (length run.steps) (omega arith)).1 ∙ ap (names_of p) (take_all (length run.steps) run.operators (omega (arith, through.operators))))))

    -- and the step
    pub run_is : run ≡ one_more sofar its_name operator next
    run_is = sym (first_all p run through) ∙ (ap (first_steps run) many ∙ (first_more p run through k within
        ∙ (ap (λ o. one_more sofar its_name o (state_at run (k + 1))) its ∙ ap (one_more sofar its_name operator) state_behind)))

-- ---- what is noted

-- before the first step
pub noted_none : (p : Parts) (start : List ℕ) (h : Historian) → Settles p start h.changes.values → CanList p h.listing → AreFirstChanges h.changes.values h.changes → h.other ≡ None → HasNoted p start h h []
noted_none p start h starts listing first none = record {
  nexts = refl;
  listing = listing;
  one_each = first.one_each ∙ starts.state.one_each;
  through = goes_none p h.changes.values starts;
  since = λ run through is. record {
    one_each = first.one_each ∙ starts.state.one_each;
    each = λ var lt. subst (IsSince run var) (sym (first.since var)) (none_since run var (omega (arith, through.states, through.operators, ap length is)));
  };
  other = λ run through is. subst (IsOtherIfAny p run) (sym none) (λ k operator other. absurd (omega (arith, other.exists, through.operators, ap length is)));
}

-- with one step more
module _ (p : Parts) (layered : IsLayered p) {start : List ℕ} (first old new : Historian) (before : List ℕ) (operator : ℕ) (next : List ℕ) (noted : HasNoted p start first old before)
    (there : GoesThroughFrom p start (before ++ operator ∷ []) next) where
  pub noted_next : (step : ℕ) → step ≡ length before + 1 → new.nexts.now ≡ old.nexts.now → CanList p new.listing → NotesChanges step next old.changes new.changes
      → AddsOther p old.changes.values operator step old.other new.other → HasNoted p start first new (before ++ operator ∷ [])
  noted_next step at nexts listing changes adds = record {
    nexts = nexts ∙ noted.nexts;
    listing = listing;
    one_each = changes.places.since ∙ fits;
    through = subst (GoesThroughFrom p start (before ++ operator ∷ [])) (sym (values_are step next old.changes new.changes changes)) there;
    since = λ run through is.
        let goes = sofar_goes p layered before s noted.through operator next there run through is in
        let last = sofar_last p layered before s noted.through operator next there run through is in
        subst (λ r. HaveSince p r new.changes.since.items) (sym (run_is p layered before s noted.through operator next there run through is))
        (since_longer p (before_of run through is) goes (name_of run through is) operator next old.changes new.changes (sym last) fits
        (subst (λ n. NotesChanges n next old.changes new.changes) (number run through is) changes)
        (noted.since (before_of run through is) goes (sofar_is p layered before s noted.through operator next there run through is)));
    other = λ run through is.
        let goes = sofar_goes p layered before s noted.through operator next there run through is in
        let last = sofar_last p layered before s noted.through operator next there run through is in
        subst (λ r. IsOtherIfAny p r new.other) (sym (run_is p layered before s noted.through operator next there run through is))
        (other_longer p (before_of run through is) goes (name_of run through is) operator next (named_so p layered before s noted.through operator next there run through is)
        step (number run through is) old.other new.other
        (noted.other (before_of run through is) goes (sofar_is p layered before s noted.through operator next there run through is))
        (subst (λ z. AddsOther p z operator step old.other new.other) (sym last) adds));
  }
    where
      s : List ℕ
      s = old.changes.values

      fits : length next ≡ length p.variables
      fits = (let step = step_there p layered before s noted.through operator next there in step.1.state.one_each)

      before_of : (run : Run) → IsRunFrom p start run → run.operators ≡ before ++ operator ∷ [] → Run
      before_of run through is = sofar p layered before s noted.through operator next there run through is

      name_of : (run : Run) → IsRunFrom p start run → run.operators ≡ before ++ operator ∷ [] → List ℕ
      name_of run through is = its_name p layered before s noted.through operator next there run through is

      number : (run : Run) (through : IsRunFrom p start run) (is : run.operators ≡ before ++ operator ∷ []) → step ≡ length (before_of run through is).steps + 1
      number run through is = at ∙ ap (λ n. n + 1) (sym (sofar_many p layered before s noted.through operator next there run through is))

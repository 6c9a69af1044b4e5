-- Operators, by their numbers, go through in at most one way. What they were chosen for.
use Rattle.sas_run.proofs.Imports.{◌≡◌, ℕ, zero, suc, ◌<◌, List, [], ◌∷◌, ◌++◌, length, take, get_or, refl, sym, ◌∙◌, ap, subst, inl, inr, arith, cases_eq, take-append_seam, get_or-append_seam, get_or_append_left, length-append, All, All-nil, All-cons, Operator, Parts, operator_at, IsLayered, Step, Settles, settled_is_one, step_is_one, IsChosen, LeadFrom, LeadsTo, Choice, Found, OperatorsLead, GoThrough, GoesThrough, GoesThroughFrom, Makes}
use Rattle.std.proofs.lemmas.List.{take-append-le}

module _ (p : Parts) where
  -- one more operator
  go_one_more : (s operators mid : List ℕ) (operator : ℕ) (next : List ℕ) → GoThrough p s operators mid → operator < length p.operators → Step p mid (operator_at p operator) next
      → GoThrough p s (operators ++ operator ∷ []) next
  go_one_more s [] mid operator next goes exists step = (next, exists, subst (λ z. Step p z (operator_at p operator) next) goes step, refl)
  go_one_more s (o ∷ os) mid operator next (there, its, by, rest) exists step = (there, its, by, go_one_more there os mid operator next rest exists step)

  pub goes_one_more : {start : List ℕ} (operators mid : List ℕ) (operator : ℕ) (next : List ℕ) → GoesThroughFrom p start operators mid → operator < length p.operators → Step p mid (operator_at p operator) next
      → GoesThroughFrom p start (operators ++ operator ∷ []) next
  goes_one_more operators mid operator next through exists step =
      record { initial = through.initial; starts = through.starts; goes = go_one_more through.initial operators mid operator next through.goes exists step }

  -- the operators exist
  go_by : (s operators last : List ℕ) → GoThrough p s operators last → All (λ (o : ℕ). o < length p.operators) operators
  go_by s [] last goes = All-nil (λ (o : ℕ). o < length p.operators)
  go_by s (o ∷ os) last (there, its, by, rest) = All-cons (λ (o : ℕ). o < length p.operators) o os its (go_by there os last rest)

  pub goes_by : {start : List ℕ} (operators last : List ℕ) → GoesThroughFrom p start operators last → All (λ (o : ℕ). o < length p.operators) operators
  goes_by operators last through = go_by through.initial operators last through.goes

  -- no operators lead nowhere
  pub goes_none : {start : List ℕ} (s : List ℕ) → Settles p start s → GoesThroughFrom p start [] s
  goes_none s starts = record { initial = s; starts = starts; goes = refl }

  -- the first of some operators lead to a state
  go_front : (s operators last : List ℕ) (k : ℕ) → GoThrough p s operators last → (there : List ℕ) × GoThrough p s (take k operators) there
  go_front s operators last zero goes = (s, refl)
  go_front s [] last (suc k) goes = (s, refl)
  go_front s (o ∷ os) last (suc k) (there, its, by, rest) = let w = go_front there os last k rest in (w.0, (there, its, by, w.1))

  pub goes_front : {start : List ℕ} (operators last : List ℕ) (k : ℕ) → GoesThroughFrom p start operators last → (there : List ℕ) × GoesThroughFrom p start (take k operators) there
  goes_front operators last k through =
      let w = go_front through.initial operators last k through.goes in
      (w.0, record { initial = through.initial; starts = through.starts; goes = w.1 })

  -- operators that names mean are those of the named steps
  led : (s : List ℕ) (names : List (List ℕ)) (operators last : List ℕ) → length operators ≡ length names
      → ((k : ℕ) (there : List ℕ) → k < length operators → GoThrough p s (take k operators) there → IsChosen p there (get_or names k []) (get_or operators k 0))
      → GoThrough p s operators last → LeadFrom p s names operators last
  led s [] [] last same each goes = goes
  led s [] (o ∷ os) last same each goes = absurd (omega arith)
  led s (n ∷ ns) [] last same each goes = absurd (omega arith)
  led s (n ∷ ns) (o ∷ os) last same each (there, its, by, rest) =
      (there, each 0 s (omega arith) refl, by, led there ns os last (omega arith) (λ k after lt goes. each (suc k) after (omega arith) (there, its, by, goes)) rest)

  pub leads_by_numbers : (names : List (List ℕ)) (operators last : List ℕ) → length operators ≡ length names
      → ((k : ℕ) (there : List ℕ) → k < length operators → GoesThrough p (take k operators) there → IsChosen p there (get_or names k []) (get_or operators k 0))
      → GoesThrough p operators last → LeadsTo p names operators last
  leads_by_numbers names operators last same each through = search (arith, each, led)

  -- named steps lead by numbers, too, by steps of any kind that each step is of
  module _ (IsStep : List ℕ → Operator → List ℕ → Type 0) (is : (s : List ℕ) (o : Operator) (next : List ℕ) → Step p s o next → IsStep s o next) where
    pub led_on : (s : List ℕ) (names : List (List ℕ)) (operators last : List ℕ) → LeadFrom p s names operators last → OperatorsLead p IsStep s operators last
    led_on s [] [] last goes = goes
    led_on s [] (o ∷ os) last goes = absurd goes
    led_on s (n ∷ ns) [] last goes = absurd goes
    led_on s (n ∷ ns) (o ∷ os) last (there, chosen, by, rest) = (there, chosen.of_name.exists, is s (operator_at p o) there by, led_on there ns os last rest)

  pub leads_on_numbers : (names : List (List ℕ)) (operators last : List ℕ) → LeadsTo p names operators last → GoesThrough p operators last
  leads_on_numbers names operators last leads = record { initial = leads.initial; starts = leads.starts; goes = led_on (Step p) (λ s o next step. step) leads.initial names operators last leads.goes }

  as_many : (s : List ℕ) (names : List (List ℕ)) (operators last : List ℕ) → LeadFrom p s names operators last → length operators ≡ length names
  as_many s [] [] last goes = refl
  as_many s [] (o ∷ os) last goes = absurd goes
  as_many s (n ∷ ns) [] last goes = absurd goes
  as_many s (n ∷ ns) (o ∷ os) last (there, chosen, by, rest) = let same = as_many there ns os last rest in omega arith

  pub leads_as_many : (names : List (List ℕ)) (operators last : List ℕ) → LeadsTo p names operators last → length operators ≡ length names
  leads_as_many names operators last leads = as_many leads.initial names operators last leads.goes

  -- ---- in a layered task

  module _ (layered : IsLayered p) where
    pub go_one_way : (s operators x y : List ℕ) → GoThrough p s operators x → GoThrough p s operators y → x ≡ y
    go_one_way s [] x y g h = g ∙ sym h
    go_one_way s (o ∷ os) x y g h =
        go_one_way g.0 os x y g.3 (subst (λ z. GoThrough p z os y) (step_is_one p s (operator_at p o) h.0 g.0 layered h.2 g.2) h.3)

    -- from the state of the start
    pub from : {start : List ℕ} (operators last s : List ℕ) → Settles p start s → GoesThroughFrom p start operators last → GoThrough p s operators last
    from {start = start} operators last s starts through = subst (λ z. GoThrough p z operators last) (settled_is_one p start through.initial s layered through.starts starts) through.goes

    pub goes_one_way : {start : List ℕ} (operators x y : List ℕ) → GoesThroughFrom p start operators x → GoesThroughFrom p start operators y → x ≡ y
    goes_one_way operators x y g h = go_one_way g.initial operators x y g.goes (from operators y g.initial g.starts h)

    -- each named step means its operator
    chosen_at : (s : List ℕ) (names : List (List ℕ)) (operators last : List ℕ) (k : ℕ) (there : List ℕ) → LeadFrom p s names operators last → k < length operators
        → GoThrough p s (take k operators) there → IsChosen p there (get_or names k []) (get_or operators k 0)
    chosen_at s [] [] last k there leads lt goes = absurd (omega arith)
    chosen_at s [] (o ∷ os) last k there leads lt goes = absurd leads
    chosen_at s (n ∷ ns) [] last k there leads lt goes = absurd leads
    chosen_at s (n ∷ ns) (o ∷ os) last zero there leads lt goes = subst (λ z. IsChosen p z n o) (sym goes) leads.1
    chosen_at s (n ∷ ns) (o ∷ os) last (suc k) there leads lt goes =
        chosen_at leads.0 ns os last k there leads.3 (omega arith)
        (subst (λ z. GoThrough p z (take k os) there) (step_is_one p s (operator_at p o) goes.0 leads.0 layered goes.2 leads.2) goes.3)

    pub leads_chosen : (names : List (List ℕ)) (operators last : List ℕ) (k : ℕ) (there : List ℕ) → LeadsTo p names operators last → k < length operators
        → GoesThrough p (take k operators) there → IsChosen p there (get_or names k []) (get_or operators k 0)
    leads_chosen names operators last k there leads lt through = chosen_at leads.initial names operators last k there leads.goes lt (from (take k operators) there leads.initial leads.starts through)

    -- operators that go through have a step at each of their numbers
    go_on : (s operators last : List ℕ) (k : ℕ) (there : List ℕ) → GoThrough p s operators last → k < length operators → GoThrough p s (take k operators) there
        → (get_or operators k 0 < length p.operators) × ((next : List ℕ) × Step p there (operator_at p (get_or operators k 0)) next)
    go_on s [] last k there g lt h = absurd (omega arith)
    go_on s (o ∷ os) last zero there g lt h = (g.1, (g.0, subst (λ z. Step p z (operator_at p o) g.0) (sym h) g.2))
    go_on s (o ∷ os) last (suc k) there g lt h =
        go_on g.0 os last k there g.3 (omega arith) (subst (λ z. GoThrough p z (take k os) there) (step_is_one p s (operator_at p o) h.0 g.0 layered h.2 g.2) h.3)

    pub goes_on : {start : List ℕ} (operators last : List ℕ) (k : ℕ) (there : List ℕ) → GoesThroughFrom p start operators last → k < length operators → GoesThroughFrom p start (take k operators) there
        → (get_or operators k 0 < length p.operators) × ((next : List ℕ) × Step p there (operator_at p (get_or operators k 0)) next)
    goes_on operators last k there g lt h = go_on g.initial operators last k there g.goes lt (from (take k operators) there g.initial g.starts h)

    -- ---- one more step is made

    module _ (start : List ℕ) (Means : ℕ → List ℕ → Choice → Type 0) (operators s : List ℕ) (makes : Makes p start Means operators s) (operator : ℕ) (next : List ℕ)
        (exists : operator < length p.operators) (means : Means (length operators) s (Found operator)) (step : Step p s (operator_at p operator) next) where
      abbrev more : List ℕ
      more = operators ++ operator ∷ []

      each : (k : ℕ) (before : List ℕ) → k < length more → GoesThroughFrom p start (take k more) before → Means k before (Found (get_or more k 0))
      each k before lt goes = elim (cases_eq k (length operators)) [
        | inl is ↦
            let front : take k more ≡ operators = ap (λ n. take n more) is ∙ take-append_seam operators (operator ∷ []) in
            let there : before ≡ s = goes_one_way operators before s (subst (λ os. GoesThroughFrom p start os before) front goes) makes.through in
            let its : get_or more k 0 ≡ operator = ap (λ n. get_or more n 0) is ∙ get_or-append_seam operators operator [] 0 in
            subst (λ o. Means k before (Found o)) (sym its) (subst (λ n. Means n before (Found operator)) (sym is) (subst (λ z. Means (length operators) z (Found operator)) (sym there) means))
        | inr other ↦
            let within : k < length operators = (let long = length-append operators (operator ∷ []) in omega arith) in
            let front : take k more ≡ take k operators = take-append-le k operators (operator ∷ []) (omega arith) in
            let its : get_or more k 0 ≡ get_or operators k 0 = get_or_append_left operators (operator ∷ []) 0 k within in
            subst (λ o. Means k before (Found o)) (sym its) (makes.each k before within (subst (λ os. GoesThroughFrom p start os before) front goes))
      ]

      pub makes_one_more : Makes p start Means more next
      makes_one_more = record { through = goes_one_more operators s operator next makes.through exists step; each = each }

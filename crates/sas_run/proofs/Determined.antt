-- Steps are executable in at most one way.
use Rattle.std.proofs.lemmas.Grind.{common_steps}
use Rattle.sas_run.proofs.Imports.{◌≡◌, ℕ, ◌<◌, List, [], ◌∷◌, ◌++◌, length, refl, sym, ◌∙◌, ap, subst, arith, cases_lt, Parts, operator_at, IsLayered, Step, IsInitial, settled_is_one, step_is_one, IsChosen, LeadFrom, LeadsTo, ComesTo}

-- there is at most one chosen operator
pub chosen_is_one : (p : Parts) (s name : List ℕ) (a b : ℕ) → IsChosen p s name a → IsChosen p s name b → a ≡ b
chosen_is_one p s name a b x y = grind (arith, common_steps, cases_lt)

-- in this state the name has a chosen operator with a step
pub record GoesOn (p : Parts) (s name : List ℕ) : Type 0 where
  pub operator : ℕ
  pub chosen : IsChosen p s name operator
  pub next : List ℕ
  pub step : Step p s (operator_at p operator) next

-- of two indices of a list the lower one is before the other
split_earlier : {A : Type 0} (before behind before' behind' : List A) (x x' : A) → before ++ x ∷ behind ≡ before' ++ x' ∷ behind'
    → length before < length before' → (between : List A) × (before' ≡ before ++ x ∷ between)
split_earlier before behind [] behind' x x' e lt = absurd (omega arith)
split_earlier [] behind (y ∷ ys) behind' x x' e lt = let same : x ≡ y = cc in (ys, ap (λ z. z ∷ ys) (sym same))
split_earlier (b ∷ bs) behind (y ∷ ys) behind' x x' e lt =
    let same : b ≡ y = cc in
    let rest : bs ++ x ∷ behind ≡ ys ++ x' ∷ behind' = cc in
    let r = split_earlier bs behind ys behind' x x' rest (omega arith) in
    (r.0, ap (λ z. z ∷ ys) (sym same) ∙ ap (λ zs. b ∷ zs) r.1)

split_same : {A : Type 0} (before behind before' behind' : List A) (x x' : A) → before ++ x ∷ behind ≡ before' ++ x' ∷ behind'
    → length before ≡ length before' → (before ≡ before') × (x ≡ x')
split_same [] behind [] behind' x x' e same = (refl, cc)
split_same [] behind (y ∷ ys) behind' x x' e same = absurd (omega arith)
split_same (b ∷ bs) behind [] behind' x x' e same = absurd (omega arith)
split_same (b ∷ bs) behind (y ∷ ys) behind' x x' e same =
    let head : b ≡ y = cc in
    let rest : bs ++ x ∷ behind ≡ ys ++ x' ∷ behind' = cc in
    let r = split_same bs behind ys behind' x x' rest (omega arith) in
    (ap (λ z. z ∷ bs) head ∙ ap (λ zs. y ∷ zs) r.0, r.1)

module _ (p : Parts) (layered : IsLayered p) where
  -- a name has at most one step in a state
  makes_one : (s name : List ℕ) (o q : ℕ) (x y : List ℕ) → IsChosen p s name o → IsChosen p s name q → Step p s (operator_at p o) x → Step p s (operator_at p q) y
      → (o ≡ q) × (x ≡ y)
  makes_one s name o q x y chosen chosen' step step' =
      let same = chosen_is_one p s name o q chosen chosen' in
      (same, step_is_one p s (operator_at p o) x y layered step (subst (λ k. Step p s (operator_at p k) y) (sym same) step'))

  -- the same steps from the same state have the same operators and lead to the same state
  goes_one_way : (s : List ℕ) (names : List (List ℕ)) (a b x y : List ℕ) → LeadFrom p s names a x → LeadFrom p s names b y → (a ≡ b) × (x ≡ y)
  goes_one_way s [] [] [] x y g h = (refl, g ∙ sym h)
  goes_one_way s [] [] (q ∷ b) x y g h = absurd h
  goes_one_way s [] (o ∷ a) b x y g h = absurd g
  goes_one_way s (n ∷ ns) [] b x y g h = absurd g
  goes_one_way s (n ∷ ns) (o ∷ a) [] x y g h = absurd h
  goes_one_way s (n ∷ ns) (o ∷ a) (q ∷ b) x y g h =
      let e = makes_one s n o q g.0 h.0 g.1 h.1 g.2 h.2 in
      let r = goes_one_way g.0 ns a b x y g.3 (subst (λ z. LeadFrom p z ns b y) (sym e.1) h.3) in
      (ap (λ k. k ∷ a) e.0 ∙ ap (λ ks. q ∷ ks) r.0, r.1)

  -- executable steps have a step at each of their names
  goes_on : (s : List ℕ) (before : List (List ℕ)) (name : List ℕ) (behind : List (List ℕ)) (operators last first there : List ℕ)
      → LeadFrom p s (before ++ name ∷ behind) operators last → LeadFrom p s before first there → GoesOn p there name
  goes_on s [] name behind [] last first there g h = absurd g
  goes_on s [] name behind (o ∷ os) last [] there g h = rw h record { operator = o; chosen = g.1; next = g.0; step = g.2 }
  goes_on s [] name behind (o ∷ os) last (q ∷ qs) there g h = absurd h
  goes_on s (b ∷ bs) name behind [] last first there g h = absurd g
  goes_on s (b ∷ bs) name behind (o ∷ os) last [] there g h = absurd h
  goes_on s (b ∷ bs) name behind (o ∷ os) last (q ∷ qs) there g h =
      goes_on g.0 bs name behind os last qs there g.3 (subst (λ z. LeadFrom p z bs qs there) (sym (makes_one s b o q g.0 h.0 g.1 h.1 g.2 h.2).1) h.3)

  pub initial_is_one : (a b : List ℕ) → IsInitial p a → IsInitial p b → a ≡ b
  initial_is_one a b x y = settled_is_one p p.init a b layered x y

  -- the same for steps from the initial state
  pub leads_one_way : (steps : List (List ℕ)) (a b x y : List ℕ) → LeadsTo p steps a x → LeadsTo p steps b y → (a ≡ b) × (x ≡ y)
  leads_one_way steps a b x y g h = grind (arith, goes_one_way, initial_is_one)

  pub leads_on : (before : List (List ℕ)) (name : List ℕ) (behind : List (List ℕ)) (operators last first there : List ℕ)
      → LeadsTo p (before ++ name ∷ behind) operators last → LeadsTo p before first there → GoesOn p there name
  leads_on before name behind operators last first there g h =
      goes_on g.initial before name behind operators last first there g.goes
      (subst (λ z. LeadFrom p z before first there) (initial_is_one h.initial g.initial h.starts g.starts) h.goes)

  -- executable steps from the initial state have a step at each of their names
  pub comes_on : (steps : List (List ℕ)) (step : ℕ) (s name operators last : List ℕ) → LeadsTo p steps operators last → ComesTo p steps step s name → GoesOn p s name
  comes_on steps step s name operators last g c =
      leads_on c.before name c.behind operators last c.operators s (subst (λ names. LeadsTo p names operators last) c.whole g) c.leads

  -- before a name that is reached, each name has a step
  pub comes_past : (steps : List (List ℕ)) (a b : ℕ) (s s' name name' : List ℕ) → a < b → ComesTo p steps a s name → ComesTo p steps b s' name' → GoesOn p s name
  comes_past steps a b s s' name name' lt c d =
      let at_a = c.place in
      let at_b = d.place in
      let r = split_earlier c.before c.behind d.before d.behind name name' (sym c.whole ∙ d.whole) (omega arith) in
      leads_on c.before name r.0 d.operators s' c.operators s (subst (λ names. LeadsTo p names d.operators s') r.1 d.leads) c.leads

  -- the state and the name before a step are unique
  pub comes_one_way : (steps : List (List ℕ)) (a b : ℕ) (s s' name name' : List ℕ) → a ≡ b → ComesTo p steps a s name → ComesTo p steps b s' name' → (s ≡ s') × (name ≡ name')
  comes_one_way steps a b s s' name name' same c d =
      let at_a = c.place in
      let at_b = d.place in
      let r = split_same c.before c.behind d.before d.behind name name' (sym c.whole ∙ d.whole) (omega arith) in
      ((leads_one_way d.before c.operators d.operators s s' (subst (λ names. LeadsTo p names c.operators s) r.0 c.leads) d.leads).1, r.1)

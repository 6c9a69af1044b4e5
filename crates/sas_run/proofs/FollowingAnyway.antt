-- What follows if a step is made anyway is one thing: where each step means one thing in a state, and where these are the names' operators.
use Rattle.sas_run.proofs.Imports.{◌≡◌, ◌⊎◌, ℕ, zero, suc, ◌+◌, ◌-◌, ◌<◌, List, [], ◌∷◌, ◌++◌, length, refl, sym, ap, subst, ◌∙◌, inl, inr, Contains-get_or, Parts, operator_at, WellRanged, IsLayered, IsState, IsApplicable, Agree, Choice, Unknown, Blocked, Found, Memory, NoOperator, NotApplicable, Conflict, GoalMissed, CostDiffers, IsChoice, IsLowestNamed, Succeeds, Fails, StandsFor, MadeAnyway, GoOnAnyway, Follows, ForcedStep, forced_exists, forced_is_one}
use Rattle.sas_run.proofs.Choosing.{named_or_none, chosen_or_none, some_lowest, one_lowest}
use Rattle.sas_run.proofs.Determined.{chosen_is_one}
use Rattle.sas_run.proofs.NextStates.{step_or_conflict}

-- each step means one thing in a state, and if that isn't an applicable operator it has one lowest operator
pub record AreDecided (p : Parts) (Means : ℕ → List ℕ → Choice → Type 0) (Lowest : ℕ → ℕ → Type 0) : Type 0 where
  pub some : (step : ℕ) (s : List ℕ) → (choice : Choice) × Means step s choice
  pub one : (step : ℕ) (s : List ℕ) (a b : Choice) → Means step s a → Means step s b → a ≡ b
  pub can : (step : ℕ) (s : List ℕ) (operator : ℕ) → Means step s (Found operator) → (operator < length p.operators) × IsApplicable s (operator_at p operator)
  pub some_lowest : (step : ℕ) (s : List ℕ) → Means step s Blocked → (operator : ℕ) × (operator < length p.operators) × Lowest step operator
  pub one_lowest : (step a b : ℕ) → Lowest step a → Lowest step b → a ≡ b

same_found : (a b : ℕ) → Found a ≡ Found b → a ≡ b
same_found a b is = cc

module _ (p : Parts) (Means : ℕ → List ℕ → Choice → Type 0) (Lowest : ℕ → ℕ → Type 0) (layered : IsLayered p) (decided : AreDecided p Means Lowest) where
  -- ---- at most one

  stands_one : (step : ℕ) (s : List ℕ) (a b : ℕ) → StandsFor p Means Lowest step s a → StandsFor p Means Lowest step s b → a ≡ b
  stands_one step s a b (inl x) (inl y) = same_found a b (decided.one step s (Found a) (Found b) x y)
  stands_one step s a b (inl x) (inr y) = let is : Found a ≡ Blocked = decided.one step s (Found a) Blocked x y.0 in absurd cc
  stands_one step s a b (inr x) (inl y) = let is : Found b ≡ Blocked = decided.one step s (Found b) Blocked y x.0 in absurd cc
  stands_one step s a b (inr x) (inr y) = decided.one_lowest step a b x.1 y.1

  stands_not : (step : ℕ) (s : List ℕ) (a : ℕ) → StandsFor p Means Lowest step s a → Means step s Unknown → ⊥
  stands_not step s a (inl x) none = let is : Found a ≡ Unknown = decided.one step s (Found a) Unknown x none in absurd cc
  stands_not step s a (inr x) none = let is : Blocked ≡ Unknown = decided.one step s Blocked Unknown x.0 none in absurd cc

  made_one : (step : ℕ) (s a b : List ℕ) → MadeAnyway p Means Lowest step s a → MadeAnyway p Means Lowest step s b → a ≡ b
  made_one step s a b (inl (o, x, to_a)) (inl (q, y, to_b)) =
      forced_is_one p s (operator_at p q) a b layered (subst (λ k. ForcedStep p s (operator_at p k) a) (stands_one step s o q x y) to_a) to_b
  made_one step s a b (inl (o, x, to_a)) (inr y) = absurd (stands_not step s o x y.0)
  made_one step s a b (inr x) (inl (q, y, to_b)) = absurd (stands_not step s q y x.0)
  made_one step s a b (inr x) (inr y) = x.1 ∙ sym y.1

  fails_not : (step : ℕ) (s : List ℕ) → Fails p Means step s → Succeeds p Means step s → ⊥
  fails_not step s (NoOperator at, x) (o, next, y, made) = let is : Found o ≡ Unknown = decided.one step s (Found o) Unknown y x.1 in absurd cc
  fails_not step s (NotApplicable at, x) (o, next, y, made) = let is : Found o ≡ Blocked = decided.one step s (Found o) Blocked y x.1 in absurd cc
  fails_not step s (Conflict at q, x) (o, next, y, made) = x.2 (subst (λ k. Agree s (operator_at p k).effects) (same_found o q (decided.one step s (Found o) (Found q) y x.1)) made.agree)
  fails_not step s (GoalMissed index, x) on = x
  fails_not step s (CostDiffers sum, x) on = x
  fails_not step s (Memory, x) on = x

  -- whether the step fails is noted in one way
  abbrev Notes : ℕ → List ℕ → List ℕ → List ℕ → Type 0
  Notes step there before now = (Fails p Means step there × (now ≡ before ++ (step + 1) ∷ [])) ⊎ (Succeeds p Means step there × (now ≡ before))

  noted_one : (step : ℕ) (there before a b : List ℕ) → Notes step there before a → Notes step there before b → a ≡ b
  noted_one step there before a b (inl x) (inl y) = x.1 ∙ sym y.1
  noted_one step there before a b (inl x) (inr y) = absurd (fails_not step there x.0 y.0)
  noted_one step there before a b (inr x) (inl y) = absurd (fails_not step there y.0 x.0)
  noted_one step there before a b (inr x) (inr y) = x.1 ∙ sym y.1

  gone_one : (first : ℕ) (s : List ℕ) (n : ℕ) (a b x y : List ℕ) → GoOnAnyway p Means Lowest first s n a x → GoOnAnyway p Means Lowest first s n b y → (a ≡ b) × (x ≡ y)
  gone_one first s zero a b x y g h = (g.0 ∙ sym h.0, g.1 ∙ sym h.1)
  gone_one first s (suc n) a b x y (a', s', g, made, noted) (b', t', h, made', noted') =
      let same = gone_one first s n a' b' s' t' g h in (
        noted_one (first + n) t' b' a b (subst (λ z. Notes (first + n) z b' a) same.1 (subst (λ z. Notes (first + n) s' z a) same.0 noted)) noted',
        made_one (first + n) t' x y (subst (λ z. MadeAnyway p Means Lowest (first + n) z x) same.1 made) made',
      )

  pub follows_one : (steps step : ℕ) (s a b x y : List ℕ) → Follows p Means Lowest steps step s a x → Follows p Means Lowest steps step s b y → (a ≡ b) × (x ≡ y)
  follows_one steps step s a b x y f g =
      gone_one step g.there (steps - step) a b x y (subst (λ z. GoOnAnyway p Means Lowest step z (steps - step) a x) (made_one (step - 1) s f.there g.there f.made g.made) f.later) g.later

  -- ---- at least one

  module _ (ranged : WellRanged p) where
    made_some : (step : ℕ) (s : List ℕ) → IsState p.variables s → (s' : List ℕ) × IsState p.variables s' × MadeAnyway p Means Lowest step s s'
    made_some step s state = by (decided.some step s)
      where
        forced : (operator : ℕ) → operator < length p.operators → StandsFor p Means Lowest step s operator → (s' : List ℕ) × IsState p.variables s' × MadeAnyway p Means Lowest step s s'
        forced operator lt stands =
            let next = forced_exists p s (operator_at p operator) ranged layered state (Contains-get_or p.operators operator _ lt) in
            (next.0, next.1.state, inl (operator, stands, next.1))

        by : (choice : Choice) × Means step s choice → (s' : List ℕ) × IsState p.variables s' × MadeAnyway p Means Lowest step s s'
        by (Unknown, none) = (s, state, inr (none, refl))
        by (Blocked, blocked) = let (operator, lt, lowest) = decided.some_lowest step s blocked in forced operator lt (inr (blocked, lowest))
        by (Found operator, found) = forced operator (decided.can step s operator found).0 (inl found)

    fails_or_succeeds : (step : ℕ) (s : List ℕ) → IsState p.variables s → Fails p Means step s ⊎ Succeeds p Means step s
    fails_or_succeeds step s state = by (decided.some step s)
      where
        by : (choice : Choice) × Means step s choice → Fails p Means step s ⊎ Succeeds p Means step s
        by (Unknown, none) = inl (NoOperator (step + 1), (refl, none))
        by (Blocked, blocked) = inl (NotApplicable (step + 1), (refl, blocked))
        by (Found operator, found) =
            let (lt, can) = decided.can step s operator found in
            elim (step_or_conflict p s operator ranged layered state lt can) [
              | inl next ↦ inr (operator, next.0, found, next.1)
              | inr clash ↦ inl (Conflict (step + 1) operator, (refl, found, clash))
            ]

    gone_some : (first : ℕ) (s : List ℕ) (n : ℕ) → IsState p.variables s → (failing last : List ℕ) × IsState p.variables last × GoOnAnyway p Means Lowest first s n failing last
    gone_some first s zero state = ([], s, state, (refl, refl))
    gone_some first s (suc n) state =
        let (before, there, is, gone) = gone_some first s n state in
        let (last, is', made) = made_some (first + n) there is in
        elim (fails_or_succeeds (first + n) there is) [
          | inl fails ↦ (before ++ (first + n + 1) ∷ [], last, is', (before, there, gone, made, inl (fails, refl)))
          | inr succeeds ↦ (before, last, is', (before, there, gone, made, inr (succeeds, refl)))
        ]

    pub follows_some : (steps step : ℕ) (s : List ℕ) → IsState p.variables s → (failing last : List ℕ) × Follows p Means Lowest steps step s failing last
    follows_some steps step s state =
        let (there, is, made) = made_some (step - 1) s state in
        let (failing, last, fits, gone) = gone_some step there (steps - step) is in
        (failing, last, record { there = there; made = made; later = gone })

-- ---- by names

choice_one : (p : Parts) (s name : List ℕ) (a b : Choice) → IsChoice p s name a → IsChoice p s name b → a ≡ b
choice_one p s name Unknown Unknown x y = refl
choice_one p s name Unknown Blocked x y = absurd (x y.0.0 y.0.1)
choice_one p s name Unknown (Found o) x y = absurd (x o y.of_name)
choice_one p s name Blocked Unknown x y = absurd (y x.0.0 x.0.1)
choice_one p s name Blocked Blocked x y = refl
choice_one p s name Blocked (Found o) x y = absurd (x.1 o y.of_name y.applicable)
choice_one p s name (Found o) Unknown x y = absurd (y o x.of_name)
choice_one p s name (Found o) Blocked x y = absurd (y.1 o x.of_name x.applicable)
choice_one p s name (Found o) (Found q) x y = ap (λ (k : ℕ). Found k) (chosen_is_one p s name o q x y)

choice_some : (p : Parts) (s name : List ℕ) → (choice : Choice) × IsChoice p s name choice
choice_some p s name = elim (chosen_or_none p s name) [
  | inl w ↦ (Found w.0, w.1)
  | inr none ↦ elim (named_or_none p name) [
    | inl w ↦ (Blocked, (w, none))
    | inr nowhere ↦ (Unknown, nowhere)
  ]
]

pub names_decide : (p : Parts) (name : ℕ → List ℕ) → AreDecided p (λ step s. IsChoice p s (name step)) (λ step. IsLowestNamed p (name step) 0)
names_decide p name = record {
  some = λ step s. choice_some p s (name step);
  one = λ step s. choice_one p s (name step);
  can = λ step s operator chosen. (chosen.of_name.exists, chosen.applicable);
  some_lowest = λ step s blocked. (let (lowest, is) = some_lowest p (name step) blocked.0.0 blocked.0.1 in (lowest, is.of_name.exists, is));
  one_lowest = λ step. one_lowest p (name step);
}

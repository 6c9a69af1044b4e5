-- Writing the effects that fire over a state, one after another.
use Rattle.sas_meaning.proofs.Imports.{common_steps, ◌≡◌, ◌≢◌, ℕ, zero, suc, ◌<◌, ◌⊎◌, ◌==◌, Bool, true, false, if◌then◌else◌, List, [], ◌∷◌, ◌++◌, length, get_or, set, slice_index, refl, ◌∙◌, subst, inl, inr, arith, cases_eq, eqb-true, eq-eqb, get_or-set_same, get_or-set_other, get_or_default, length-set, All, All-nil, All-cons, All-head, All-tail, AllPass-from_list_all, list_all-from_AllPass, Fact, Effect, Parts, no_effect, HasValue, IsState, Fires, fires, written}
use Rattle.sas_meaning.proofs.Facts.{hold_or_not, Untouched}
use Rattle.sas_meaning.proofs.Forced.{state_set}

-- the test tells whether an effect fires
pub fires_so : (s : List ℕ) (e : Effect) → fires s e ≡ true → Fires s e
fires_so s e test k d lt = eqb-true _ _ (AllPass-from_list_all (λ (f : Fact). slice_index s f.var == f.value) e.conditions test k d lt)

pub so_fires : (s : List ℕ) (e : Effect) → Fires s e → fires s e ≡ true
so_fires s e hold = list_all-from_AllPass (λ (f : Fact). slice_index s f.var == f.value) e.conditions (λ k d lt. eq-eqb _ _ (hold k d lt))

module _ (s : List ℕ) where
  -- of the effects that fire, this one is the last on the variable
  pub record LastOn (effects : List Effect) (v : ℕ) : Type 0 where
    pub place : ℕ
    pub exists : place < length effects
    pub fires : Fires s (get_or effects place no_effect)
    pub on : (get_or effects place no_effect).var ≡ v
    pub last : (later : ℕ) → place < later → later < length effects → Fires s (get_or effects later no_effect)
        → (get_or effects later no_effect).var ≢ v

  last_behind : (e : Effect) (es : List Effect) (v : ℕ) → LastOn es v → LastOn (e ∷ es) v
  last_behind e es v w = record { place = suc w.place; exists = let lt = w.exists in omega arith; fires = w.fires; on = w.on; last = last }
    where
      last : (later : ℕ) → suc w.place < later → later < length (e ∷ es) → Fires s (get_or (e ∷ es) later no_effect) → (get_or (e ∷ es) later no_effect).var ≢ v
      last zero behind lt = absurd (omega arith)
      last (suc later) behind lt = w.last later (omega arith) (omega arith)

  last_here : (e : Effect) (es : List Effect) (v : ℕ) → Fires s e → e.var ≡ v → All (Untouched s v) es → LastOn (e ∷ es) v
  last_here e es v hold is kept = grind (arith, common_steps)

  -- either there is a last one on the variable, or none that fires is on it
  pub last_or_none : (effects : List Effect) (v : ℕ) → LastOn effects v ⊎ All (Untouched s v) effects
  last_or_none [] v = inr (All-nil (Untouched s v))
  last_or_none (e ∷ es) v = elim (last_or_none es v) [
    | inl w ↦ inl (last_behind e es v w)
    | inr kept ↦ elim (cases_eq e.var v) [
      | inr ne ↦ inr (All-cons (Untouched s v) e es (λ _. ne) kept)
      | inl is ↦ elim (hold_or_not (slice_index s) e.conditions) [
        | inl hold ↦ inl (last_here e es v hold is kept)
        | inr n ↦ inr (All-cons (Untouched s v) e es (λ hold. absurd (n hold)) kept)
      ]
    ]
  ]

  -- the values after one effect
  abbrev pub one : Effect → List ℕ → List ℕ
  one e values = if fires s e then set values e.var e.new else values

  one_length : (e : Effect) (values : List ℕ) → length (one e values) ≡ length values
  one_length e values = grind (arith, common_steps, length-set)

  one_kept : (e : Effect) (values : List ℕ) (v : ℕ) → Untouched s v e → get_or (one e values) v 0 ≡ get_or values v 0
  one_kept e values v kept = grind (arith, common_steps, get_or-set_other, fires_so)

  one_set : (e : Effect) (values : List ℕ) → Fires s e → e.var < length values → get_or (one e values) e.var 0 ≡ e.new
  one_set e values hold lt = grind (arith, common_steps, so_fires, get_or-set_same)

  pub written_length : (effects : List Effect) (values : List ℕ) → length (written s effects values) ≡ length values
  written_length [] values = refl
  written_length (e ∷ es) values = written_length es (one e values) ∙ one_length e values

  -- one more effect
  pub written_more : (effects : List Effect) (e : Effect) (values : List ℕ) → written s (effects ++ e ∷ []) values ≡ one e (written s effects values)
  written_more [] e values = refl
  written_more (f ∷ fs) e values = written_more fs e (one f values)

  -- a variable that no effect sets keeps its value
  pub written_kept : (effects : List Effect) (values : List ℕ) (v : ℕ) → All (Untouched s v) effects
      → get_or (written s effects values) v 0 ≡ get_or values v 0
  written_kept [] values v kept = refl
  written_kept (e ∷ es) values v kept =
      written_kept es (one e values) v (All-tail (Untouched s v) e es kept) ∙ one_kept e values v (All-head (Untouched s v) e es kept)

  -- a variable has the value that the last effect on it sets
  last_written : (effects : List Effect) (values : List ℕ) (place : ℕ) → place < length effects → Fires s (get_or effects place no_effect)
      → ((later : ℕ) → place < later → later < length effects → Fires s (get_or effects later no_effect)
      → (get_or effects later no_effect).var ≢ (get_or effects place no_effect).var)
      → (get_or effects place no_effect).var < length values
      → get_or (written s effects values) (get_or effects place no_effect).var 0 ≡ (get_or effects place no_effect).new
  last_written [] values place exists hold last within = absurd (omega arith)
  last_written (e ∷ es) values zero exists hold last within = written_kept es (one e values) e.var kept ∙ one_set e values hold within
    where
      kept : All (Untouched s e.var) es
      kept j d lt = subst (λ (f : Effect). Untouched s e.var f) (get_or_default es j no_effect d lt) (last (suc j) (omega arith) (omega arith))
  last_written (e ∷ es) values (suc place) exists hold last within =
      last_written es (one e values) place (omega arith) hold (λ later behind lt. last (suc later) (omega arith) (omega arith))
      (let same = one_length e values in omega arith)

  pub written_last : (effects : List Effect) (values : List ℕ) (v : ℕ) (w : LastOn effects v) → v < length values
      → get_or (written s effects values) v 0 ≡ (get_or effects w.place no_effect).new
  written_last effects values v w within = grind (arith, common_steps, last_written)

  -- what is written is a state
  pub written_state : (p : Parts) (effects : List Effect) (values : List ℕ) → All (λ (e : Effect). HasValue p.variables e.var e.new) effects
      → IsState p.variables values → IsState p.variables (written s effects values)
  written_state p [] values fit state = state
  written_state p (e ∷ es) values fit state = written_state p es (one e values) (All-tail (λ (f : Effect). HasValue p.variables f.var f.new) e es fit) (by (fires s e))
    where
      by : (b : Bool) → IsState p.variables (if b then set values e.var e.new else values)
      by true = state_set p values e.var e.new state (All-head (λ (f : Effect). HasValue p.variables f.var f.new) e es fit)
      by false = state

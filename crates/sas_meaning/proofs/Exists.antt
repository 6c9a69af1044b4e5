-- For all values of the basic variables there is a settled state.
use Rattle.sas_meaning.proofs.Imports.{rules, ◌≡◌, ℕ, zero, suc, ◌+◌, ◌<◌, ◌≤◌, ◌⊎◌, List, [], ◌∷◌, length, get_or, set, Option, None, Some, refl, sym, ◌∙◌, subst, inl, inr, arith, cases_eq, get_or-set_same, get_or-set_other, get_or_default, slice_get, option_and_then, Effect, Variable, Parts, no_effect, IsState, WellRanged, SettledExists, InitialExists, IsBasic, IsOnLayer, default_of, IsLayered, IsSettledAt, SameBasic, OnlyForced, HasFired, Changes, SameOff, AtDefault, equal_places}
use Rattle.sas_meaning.proofs.Layers.{layer_decides, layer_cases, on_layer_within}
use Rattle.sas_meaning.proofs.Forced.{Fired, fired_there, state_set}
use Rattle.sas_meaning.proofs.Facts.{hold_or_not}
use Rattle.sas_meaning.proofs.Settling.{forced_at_default, settled_when_fired, basic_off, default_off, settled_off, all_settled}

changes_or_fired : (t : Parts) (layer : ℕ) (s : List ℕ) (rule : Effect) → Changes t layer s rule ⊎ HasFired t layer s rule
changes_or_fired t layer s rule = elim (layer_decides t layer rule.var) [
  | inr a ↦ inr (λ on can hold. absurd (a.0 on))
  | inl a ↦ elim (cases_eq rule.new (default_of t rule.var)) [
    | inl b ↦ inr (λ on can hold. absurd (can b))
    | inr b ↦ elim (cases_eq (get_or s rule.var 0) rule.new) [
      | inl e ↦ inr (λ on can hold. e)
      | inr ne ↦ elim (hold_or_not (λ v. get_or s v 0) rule.conditions) [
        | inl h ↦ inl (record { on = a.0; can = b; hold = h; new = ne })
        | inr n ↦ inr (λ on can hold. absurd (n hold))
      ]
    ]
  ]
]

search_rules : (t : Parts) (layer : ℕ) (s : List ℕ) (d : Effect) (n : ℕ) → n ≤ length t.rules
    → ((k : ℕ) × (k < length t.rules) × Changes t layer s (get_or t.rules k d)) ⊎ ((k : ℕ) → k < n → HasFired t layer s (get_or t.rules k d))
search_rules t layer s d zero le = inr (λ k lt. absurd (omega arith))
search_rules t layer s d (suc n) le = elim (search_rules t layer s d n (omega arith)) [
  | inl w ↦ inl w
  | inr before ↦ elim (changes_or_fired t layer s (get_or t.rules n d)) [
    | inl ch ↦ inl (n, omega arith, ch)
    | inr here ↦ inr (λ k lt. elim (cases_eq k n) [
      | inl e ↦ subst (λ i. HasFired t layer s (get_or t.rules i d)) (sym e) here
      | inr ne ↦ before k (omega arith)
    ])
  ]
]

module _ (t : Parts) (ranged : WellRanged t) (layered : IsLayered t) where
  record Fixed (layer : ℕ) (s : List ℕ) : Type 0 where
    result : List ℕ
    state : IsState t.variables result
    off : SameOff t layer s result
    settled : IsSettledAt t layer result

  finished : (layer : ℕ) (s : List ℕ) → IsState t.variables s → OnlyForced t layer s → ((k : ℕ) → k < length t.rules → HasFired t layer s (get_or t.rules k no_effect)) → Fixed layer s
  finished layer s state forced done = record {
    result = s;
    state = state;
    off = λ v _. refl;
    settled = settled_when_fired t layer s forced (λ k d lt. subst (λ (r : Effect). HasFired t layer s r) (get_or_default t.rules k no_effect d lt) (done k lt));
  }

  settle_at : (fuel layer : ℕ) (s : List ℕ) → IsState t.variables s → OnlyForced t layer s → equal_places s t.init ≤ fuel → Fixed layer s
  settle_at zero layer s state forced le = elim (search_rules t layer s no_effect (length t.rules) (omega arith)) [
    | inl w ↦ (let f = (fired_there t layer s w.0 no_effect ranged layered state forced w.1 w.2).fewer in absurd (omega arith))
    | inr done ↦ finished layer s state forced done
  ]
  settle_at (suc n) layer s state forced le = elim (search_rules t layer s no_effect (length t.rules) (omega arith)) [
    | inl w ↦ again (settle_at n layer) w.0 (fired_there t layer s w.0 no_effect ranged layered state forced w.1 w.2)
    | inr done ↦ finished layer s state forced done
  ]
    where
      again : ((s' : List ℕ) → IsState t.variables s' → OnlyForced t layer s' → equal_places s' t.init ≤ n → Fixed layer s') → (k : ℕ) → Fired t layer s (get_or t.rules k no_effect) → Fixed layer s
      again rest k f = let fewer = f.fewer in
          let r = rest (set s (get_or t.rules k no_effect).var (get_or t.rules k no_effect).new) f.state f.forced (omega arith) in
          record { result = r.result; state = r.state; off = λ v off. f.off v off ∙ r.off v off; settled = r.settled }

  record Below (s : List ℕ) (n : ℕ) : Type 0 where
    result : List ℕ
    state : IsState t.variables result
    basic : SameBasic t s result
    below : (m : ℕ) → m < n → IsSettledAt t m result
    above : (m : ℕ) → n ≤ m → AtDefault t m result

  record Cleared (s : List ℕ) (n : ℕ) : Type 0 where
    result : List ℕ
    state : IsState t.variables result
    basic : SameBasic t s result
    at : (v m : ℕ) → v < n → IsOnLayer t m v → get_or result v 0 ≡ default_of t v

  clear : (s : List ℕ) (n : ℕ) → n ≤ length t.variables → IsState t.variables s → Cleared s n
  clear s zero le state = record { result = s; state = state; basic = λ v b. refl; at = λ v m lt on. absurd (omega arith) }
  clear s (suc n) le state = one (clear s n (omega arith) state)
    where
      put : Cleared s n → (l : ℕ) → IsOnLayer t l n → Cleared s (suc n)
      put c l on_n = record {
        result = set c.result n (default_of t n);
        state = state_set t c.result n (default_of t n) c.state (ranged.init.in_range n (omega arith));
        basic = λ v b. c.basic v b ∙ sym (get_or-set_other c.result n v (default_of t n) 0 (λ e. let f = subst (λ x. IsBasic t x) e b in absurd cc));
        at = search (rules, arith, cases_eq, get_or-set_same, get_or-set_other);
      }

      one : Cleared s n → Cleared s (suc n)
      one c = elim (layer_cases t n) [
        | inr w ↦ put c w.0 w.1
        | inl b ↦ record {
          result = c.result;
          state = c.state;
          basic = c.basic;
          at = search (rules, arith, cases_eq);
        }
      ]

  up_to : (s : List ℕ) (n : ℕ) → Cleared s (length t.variables) → Below s n
  up_to s zero c = record { result = c.result; state = c.state; basic = c.basic; below = λ m lt. absurd (omega arith); above = λ m ge v on. c.at v m (on_layer_within t m v on) on }
  up_to s (suc n) c = one (up_to s n c)
    where
      step : (b : Below s n) → Fixed n b.result → Below s (suc n)
      step b f = record {
        result = f.result;
        state = f.state;
        basic = λ v e. b.basic v e ∙ basic_off t n b.result f.result layered f.off v e;
        below = λ m lt. elim (cases_eq m n) [
          | inl e ↦ subst (λ i. IsSettledAt t i f.result) (sym e) f.settled
          | inr ne ↦ settled_off t n b.result f.result layered f.off m (omega arith) (b.below m (omega arith))
        ];
        above = λ m ge. default_off t n b.result f.result layered f.off m (omega arith) (b.above m (omega arith));
      }

      one : Below s n → Below s (suc n)
      one b = step b (settle_at (equal_places b.result t.init) n b.result b.state (forced_at_default t n b.result (b.above n (omega arith))) (omega arith))

-- some number is above every layer
record AboveAll (vs : List Variable) : Type 0 where
  bound : ℕ
  above : (v m : ℕ) → option_and_then (λ (x : Variable). x.layer) (slice_get vs v) ≡ Some m → m < bound

above_one : (o : Option ℕ) → (b : ℕ) × ((m : ℕ) → o ≡ Some m → m < b)
above_one None = (0, λ m e. absurd cc)
above_one (Some n) = (suc n, λ m e. let f : n ≡ m = cc in omega arith)

above_all : (vs : List Variable) → AboveAll vs
above_all [] = record { bound = 0; above = λ v m e. absurd cc }
above_all (x ∷ xs) = both (above_one x.layer) (above_all xs)
  where
    at : (o : (b : ℕ) × ((m : ℕ) → x.layer ≡ Some m → m < b)) (r : AboveAll xs) (v m : ℕ) → option_and_then (λ (y : Variable). y.layer) (slice_get (x ∷ xs) v) ≡ Some m → m < o.0 + r.bound
    at o r zero m e = let lt = o.1 m e in omega arith
    at o r (suc v) m e = let lt = r.above v m e in omega arith

    both : (b : ℕ) × ((m : ℕ) → x.layer ≡ Some m → m < b) → AboveAll xs → AboveAll (x ∷ xs)
    both o r = record { bound = o.0 + r.bound; above = at o r }

pub settled_exists : SettledExists
settled_exists t s ranged layered state =
    let top = above_all t.variables in
    let b = up_to t ranged layered s top.bound (clear t ranged layered s (length t.variables) (omega arith) state) in
    (b.result, record { state = b.state; basic = b.basic; settled = all_settled t top.bound b.result b.below (λ m ge occurs. let lt = top.above occurs.0 m occurs.1 in absurd (omega arith)) })

pub initial_exists : InitialExists
initial_exists t ranged layered = settled_exists t t.init ranged layered ranged.init

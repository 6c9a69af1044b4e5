-- The counters of a worklist.
use Rattle.sas_axioms.proofs.Imports.{◌≡◌, ◌≢◌, ℕ, ◌+◌, ◌<◌, ◌≤◌, ◌⊎◌, Vec, Global, true, cond, List, [], ◌∷◌, ◌++◌, length, get_or, set, refl, sym, ◌∙◌, ap, subst, inl, inr, arith, cases_eq, eqb_tells, get_or-set_same, get_or-set_other, length-set, length-append, vec_capacity, Fact, Parts, rule_at, IsState, WellRanged, Holds, AllHold, IsOnLayer, on_layer_within, default_of, IsRuleOn, open_conditions, occurrences, asking, ValueChange, RuleCondition, waiting_at, IsFullIndex, Work, value_seen, IsRunning, AreCountedBy, IsFiring, IsAtWork, WorkGoesOn, with_source, left_to_do, IsLayered, differs, IsSettledAt, AtDefault, equal_places, All, All-nil, All-cons, All-head, All-tail, Fired, fired_there, rule_new, differs_true, differs_same, differs_not, fact_within, forced_at_default, no_effect}
use Rattle.sas_axioms.proofs.AllConditions.{can_recount, open_changed}
use Rattle.sas_axioms.proofs.CountingEntries.{CanRecount, CountersSoFar, counters_after, left_over}
use Rattle.sas_axioms.proofs.Sources.{given_when_fired, settled_when_set}

abbrev pub with_counters : Work → List ℕ → Work
with_counters w counters = record { layer = w.layer; counters = counters; stack = w.stack; sources = w.sources; agenda = w.agenda }

abbrev pub with_stack : Work → Vec ℕ Global → Work
with_stack w stack = record { layer = w.layer; counters = w.counters; stack = stack; sources = w.sources; agenda = w.agenda }

pub occurrences-append : (n : ℕ) (xs ys : List ℕ) → occurrences n (xs ++ ys) ≡ occurrences n xs + occurrences n ys
occurrences-append n [] ys = omega arith
occurrences-append n (x ∷ xs) ys = let ih = occurrences-append n xs ys in omega arith

-- one more on the stack
pub occurrences_pushed : (n v : ℕ) (xs : List ℕ) → ((v ≡ n) × (occurrences n (xs ++ v ∷ []) ≡ occurrences n xs + 1)) ⊎ ((v ≢ n) × (occurrences n (xs ++ v ∷ []) ≡ occurrences n xs))
occurrences_pushed n v xs = grind (arith, eqb_tells, occurrences-append)

pub seen_shows : (t : Parts) (s stack : List ℕ) (v : ℕ) → ((occurrences v stack ≡ 0) × (value_seen t s stack v ≡ get_or s v 0)) ⊎ ((0 < occurrences v stack) × (value_seen t s stack v ≡ default_of t v))
seen_shows t s stack v = grind (arith, eqb_tells, occurrences)

-- the variable of a rule exists
pub rule_within : (t : Parts) (s : List ℕ) (k : ℕ) → WellRanged t → IsState t.variables s → k < length t.rules → (rule_at t k).var < length s
rule_within t s k ranged state lt =
    let within = fact_within t (rule_at t k).var (rule_at t k).new (rule_new t ranged k no_effect lt) in
    let len = state.one_each in omega arith

-- firing rules goes on where layer, sources and sizes are the same
pub firing_as : (t : Parts) (s stack : List ℕ) (w w' : Work) → w'.layer ≡ w.layer → length w'.counters ≡ length w.counters → w'.sources ≡ w.sources → vec_capacity w.stack ≤ vec_capacity w'.stack
    → IsFiring t s stack w → IsFiring t s stack w'
firing_as t s stack w w' layer one_each sources capacity was = grind (arith, length)

-- a rule of the layer that holds changes its variable's value
module _ (t : Parts) (s : List ℕ) (w : Work) (k : ℕ) (ranged : WellRanged t) (layered : IsLayered t) (was : IsFiring t s w.stack.items w) (on : IsRuleOn t w.layer k)
    (hold : AllHold (λ v. get_or s v 0) (rule_at t k).conditions) (changes : get_or s (rule_at t k).var 0 ≢ (rule_at t k).new) where
  fires : Fired t w.layer s (rule_at t k)
  fires = fired_there t w.layer s k no_effect ranged layered was.running.state was.running.forced on.exists (record { on = on.on; can = on.can; hold = hold; new = changes })

  within : (rule_at t k).var < length s
  within = rule_within t s k ranged was.running.state on.exists

  kept : (v : ℕ) → differs t s v ≡ true → get_or (set s (rule_at t k).var (rule_at t k).new) v 0 ≡ get_or s v 0
  kept v d = get_or-set_other s (rule_at t k).var v (rule_at t k).new 0 (λ e. differs_not t s v d (subst (λ x. get_or s x 0 ≡ default_of t x) (sym e) fires.default))

  pub fired_value : get_or (set s (rule_at t k).var (rule_at t k).new) (rule_at t k).var 0 ≡ (rule_at t k).new
  fired_value = get_or-set_same s (rule_at t k).var (rule_at t k).new 0 within

  pub fired_goes_on : WorkGoesOn t s w (set s (rule_at t k).var (rule_at t k).new) (with_source w (rule_at t k).var k)
  fired_goes_on = grind (arith, fires, get_or-set_other, rule_at, kept)

  pub fired_left : left_to_do t (set s (rule_at t k).var (rule_at t k).new) (w.stack.items ++ (rule_at t k).var ∷ []) ≤ left_to_do t s w.stack.items
  fired_left = let fewer = fires.fewer in let len = length-append w.stack.items ((rule_at t k).var ∷ []) in omega arith

  -- the variable could be put on the stack
  pub fired_firing : IsFiring t (set s (rule_at t k).var (rule_at t k).new) (w.stack.items ++ (rule_at t k).var ∷ []) (with_source w (rule_at t k).var k)
  fired_firing = record {
    room = record { one_each = was.room.one_each; variables = was.room.variables; sources = length-set w.sources (rule_at t k).var k ∙ was.room.sources };
    running = record { state = fires.state; forced = fires.forced; fired = fired; once = once; room = room };
    given = given_when_fired t w.layer k s w.sources layered on was.given hold fires.default within (let one = was.running.state.one_each in omega (arith, within, was.room.sources));
  }
    where
      not_yet : occurrences (rule_at t k).var w.stack.items ≡ 0
      not_yet = elim (seen_shows t s w.stack.items (rule_at t k).var) [ inl z ↦ z.0 | inr z ↦ absurd (differs_not t s (rule_at t k).var (was.running.fired (rule_at t k).var z.0).1 fires.default) ]

      fired : (v : ℕ) → 0 < occurrences v (w.stack.items ++ (rule_at t k).var ∷ []) → IsOnLayer t w.layer v × (differs t (set s (rule_at t k).var (rule_at t k).new) v ≡ true)
      fired v lt = elim (occurrences_pushed v (rule_at t k).var w.stack.items) [
        | inl z ↦ (
          subst (λ x. IsOnLayer t w.layer x) z.0 on.on,
          subst (λ x. differs t (set s (rule_at t k).var (rule_at t k).new) x ≡ true) z.0
              (differs_true t (set s (rule_at t k).var (rule_at t k).new) (rule_at t k).var (λ e. on.can (sym fired_value ∙ e))),
        )
        | inr z ↦ (let p = was.running.fired v (subst (λ n. 0 < n) z.1 lt) in
            (p.0, differs_same t s (set s (rule_at t k).var (rule_at t k).new) v (sym (kept v p.1)) p.1))
      ]

      once : (v : ℕ) → occurrences v (w.stack.items ++ (rule_at t k).var ∷ []) ≤ 1
      once v = elim (occurrences_pushed v (rule_at t k).var w.stack.items) [
        | inl z ↦ (let none : occurrences v w.stack.items ≡ 0 = subst (λ x. occurrences x w.stack.items ≡ 0) z.0 not_yet in let e = z.1 in omega arith)
        | inr z ↦ (let le = was.running.once v in let e = z.1 in omega arith)
      ]

      room : length (w.stack.items ++ (rule_at t k).var ∷ []) + equal_places (set s (rule_at t k).var (rule_at t k).new) t.init ≤ length (set s (rule_at t k).var (rule_at t k).new)
      room = let a = length-append w.stack.items ((rule_at t k).var ∷ []) in let b = length-set s (rule_at t k).var (rule_at t k).new in let le = was.running.room in let lt = fires.fewer in omega arith

  pub fired_seen : (v : ℕ) → value_seen t (set s (rule_at t k).var (rule_at t k).new) (w.stack.items ++ (rule_at t k).var ∷ []) v ≡ value_seen t s w.stack.items v
  fired_seen v = grind (arith, occurrences_pushed, rule_at, seen_shows, set, default_of, value_seen, fires, cond, get_or, occurrences, get_or-set_other)

-- ---- one piece of work after another

pub goes_on_still : (t : Parts) (s : List ℕ) (w : Work) → WorkGoesOn t s w s w
goes_on_still t s w = record { layer = refl; off = λ v off. refl; sources = λ v off. refl; kept = λ v d. refl; fired = λ k is none. inr none }

pub goes_on_more : (t : Parts) (s : List ℕ) (w : Work) (s' : List ℕ) (w' : Work) (s'' : List ℕ) (w'' : Work) → WorkGoesOn t s w s' w' → WorkGoesOn t s' w' s'' w'' → WorkGoesOn t s w s'' w''
goes_on_more t s w s' w' s'' w'' so_far more = grind (arith, kept, differs_same, rule_at, differs_true)

-- the counter of a rule is set first, which has fired in the end if it has no open conditions
pub goes_on_counted : (t : Parts) (s : List ℕ) (w : Work) (counters : List ℕ) (k n : ℕ) (s' : List ℕ) (w' : Work) → k < length w.counters → counters ≡ set w.counters k n
    → (n ≡ 0 → IsRuleOn t w.layer k → get_or s' (rule_at t k).var 0 ≡ (rule_at t k).new) → WorkGoesOn t s (with_counters w counters) s' w' → WorkGoesOn t s w s' w'
goes_on_counted t s w counters k n s' w' within is here more = grind (arith, within, kept, cases_eq, get_or, rule_at, get_or-set_same, get_or-set_other)

-- ---- counting conditions

pub all_hold_when_none_open : (value : ℕ → ℕ) (cs : List Fact) → open_conditions value cs ≡ 0 → AllHold value cs
all_hold_when_none_open value [] e = All-nil (Holds value)
all_hold_when_none_open value (c ∷ cs) e = elim (eqb_tells (value c.var) c.value) [
  | inl w ↦ All-cons (Holds value) c cs w.1 (all_hold_when_none_open value cs (omega arith))
  | inr w ↦ (let f : 1 + open_conditions value cs ≡ 0 = rw w.0 at e in absurd (omega arith))
]

pub none_open_when_all_hold : (value : ℕ → ℕ) (cs : List Fact) → AllHold value cs → open_conditions value cs ≡ 0
none_open_when_all_hold value [] h = refl
none_open_when_all_hold value (c ∷ cs) h = elim (eqb_tells (value c.var) c.value) [
  | inl w ↦ rw w.0 (let ih = none_open_when_all_hold value cs (All-tail (Holds value) c cs h) in omega arith)
  | inr w ↦ absurd (w.1 (All-head (Holds value) c cs h))
]

pub open_same : (value value' : ℕ → ℕ) (cs : List Fact) → ((v : ℕ) → value v ≡ value' v) → open_conditions value cs ≡ open_conditions value' cs
open_same value value' [] same = refl
open_same value value' (c ∷ cs) same = rw (same c.var) (let ih = open_same value value' cs same in omega arith)

-- ---- the counters of a layer

-- a rule of the layer without open conditions has conditions that hold
pub ready : (t : Parts) (layer : ℕ) (s stack : List ℕ) (k : ℕ) → IsLayered t → IsRunning t layer s stack → IsRuleOn t layer k
    → open_conditions (value_seen t s stack) (rule_at t k).conditions ≡ 0 → AllHold (λ v. get_or s v 0) (rule_at t k).conditions
ready t layer s stack k layered run on none j e lt' = grind (arith, seen_shows, get_or, rule_at, no_effect, value_seen, all_hold_when_none_open)

pub counts_seen : (t : Parts) (s s' stack stack' counters : List ℕ) → ((v : ℕ) → value_seen t s' stack' v ≡ value_seen t s stack v) → AreCountedBy t (value_seen t s stack) counters → AreCountedBy t (value_seen t s' stack') counters
counts_seen t s s' stack stack' counters same counts layer k on = grind (arith, open_same, value_seen, rule_at)

-- ---- a variable is popped

pub popped_running : (t : Parts) (layer : ℕ) (s rest : List ℕ) (v : ℕ) → IsRunning t layer s (rest ++ v ∷ []) → IsRunning t layer s rest
popped_running t layer s rest v run = record {
  state = run.state;
  forced = run.forced;
  fired = λ u lt. run.fired u (let e = occurrences-append u rest (v ∷ []) in omega arith);
  once = λ u. let e = occurrences-append u rest (v ∷ []) in let le = run.once u in omega arith;
  room = let e = length-append rest (v ∷ []) in let le = run.room in omega arith;
}

pub top_is : (t : Parts) (layer : ℕ) (s rest : List ℕ) (v : ℕ) → IsRunning t layer s (rest ++ v ∷ []) → IsOnLayer t layer v × (differs t s v ≡ true)
top_is t layer s rest v run = grind (arith, occurrences_pushed)

pub top_within : (t : Parts) (layer : ℕ) (s rest : List ℕ) (v : ℕ) → IsRunning t layer s (rest ++ v ∷ []) → v < length t.variables
top_within t layer s rest v run = on_layer_within t layer v (top_is t layer s rest v run).0

-- conditions that ask for no such value
asking_none : (v x : ℕ) (cs : List Fact) → All (λ (c : Fact). c.var ≡ v → c.value ≢ x) cs → asking v x cs ≡ 0
asking_none v x [] none = refl
asking_none v x (c ∷ cs) none =
    let ih = asking_none v x cs (All-tail (λ (c : Fact). c.var ≡ v → c.value ≢ x) c cs none) in
    elim (eqb_tells c.var v) [
      | inr ne ↦ rw ne.0 (omega arith)
      | inl e ↦ elim (eqb_tells c.value x) [
        | inl y ↦ absurd (All-head (λ (c : Fact). c.var ≡ v → c.value ≢ x) c cs none e.1 y.1)
        | inr y ↦ rw (e.0, y.0) (omega arith)
      ]
    ]

module _ (t : Parts) (layer : ℕ) (s rest : List ℕ) (v : ℕ) (run : IsRunning t layer s (rest ++ v ∷ [])) where
  gone : occurrences v rest ≡ 0
  gone = elim (occurrences_pushed v v rest) [ inl w ↦ (let e = w.1 in let le = run.once v in omega arith) | inr w ↦ absurd (w.0 refl) ]

  pub seen_after : value_seen t s rest v ≡ get_or s v 0
  seen_after = elim (seen_shows t s rest v) [ inl w ↦ w.1 | inr w ↦ (let z = gone in let p = w.0 in absurd (omega arith)) ]

  pub seen_before : value_seen t s (rest ++ v ∷ []) v ≡ default_of t v
  seen_before = elim (seen_shows t s (rest ++ v ∷ []) v) [ inl w ↦ (let z = w.0 in let e = occurrences_pushed v v rest in absurd (elim e [ inl p ↦ (let q = p.1 in omega arith) | inr p ↦ p.0 refl ])) | inr w ↦ w.1 ]

  seen_of_others : (u : ℕ) → u ≢ v → value_seen t s (rest ++ v ∷ []) u ≡ value_seen t s rest u
  seen_of_others u ne = grind (arith, occurrences_pushed, cond, get_or, default_of)

  -- a popped variable differs from its default
  pub popped_differs : default_of t v ≢ get_or s v 0
  popped_differs e = differs_not t s v (top_is t layer s rest v run).1 (sym e)

  -- no rule of its layer asks for its default
  pub none_own : IsLayered t → (k : ℕ) → IsRuleOn t layer k → asking v (default_of t v) (rule_at t k).conditions ≡ 0
  none_own layered k on = grind (arith, asking_none, default_of, rule_at, no_effect, top_is)

  -- what is still to be counted
  pub popped_counts : (counters : List ℕ) → AreCountedBy t (value_seen t s (rest ++ v ∷ [])) counters → (m k : ℕ) → IsRuleOn t m k
      → get_or counters k 0 + asking v (default_of t v) (rule_at t k).conditions
      ≡ open_conditions (value_seen t s rest) (rule_at t k).conditions + asking v (get_or s v 0) (rule_at t k).conditions
  popped_counts counters counts m k on =
      let a = counts m k on in
      let e = open_changed (value_seen t s (rest ++ v ∷ [])) (value_seen t s rest) v (rule_at t k).conditions seen_of_others in
      let b = ap (λ x. asking v x (rule_at t k).conditions) seen_before in
      let d = ap (λ x. asking v x (rule_at t k).conditions) seen_after in
      omega arith

-- with nothing left on the stack the layer is settled
pub settled_when_empty : (t : Parts) (layer : ℕ) (s counters : List ℕ) → IsRunning t layer s [] → AreCountedBy t (value_seen t s []) counters
    → ((k : ℕ) → IsRuleOn t layer k → get_or counters k 0 ≡ 0 → get_or s (rule_at t k).var 0 ≡ (rule_at t k).new) → IsSettledAt t layer s
settled_when_empty t layer s counters run counts fired = settled_when_set t layer s run.forced (λ k is hold.
    fired k is (let a = counts layer k is in let b = none_open_when_all_hold (λ v. get_or s v 0) (rule_at t k).conditions hold in omega arith))

pub running_at_default : (t : Parts) (layer : ℕ) (s : List ℕ) → IsState t.variables s → AtDefault t layer s → IsRunning t layer s []
running_at_default t layer s state at = record {
  state = state;
  forced = forced_at_default t layer s at;
  fired = λ v lt. absurd (omega arith);
  once = λ v. omega arith;
  room = let le = equal_places-le s t.init in omega arith;
}
  where
    equal_places-le : (xs ys : List ℕ) → equal_places xs ys ≤ length xs
    equal_places-le [] ys = omega arith
    equal_places-le (x ∷ xs) [] = omega arith
    equal_places-le (x ∷ xs) (y ∷ ys) = let ih = equal_places-le xs ys in elim (eqb_tells x y) [ inl w ↦ rw w.0 (omega arith) | inr w ↦ rw w.0 (omega arith) ]

-- ---- the entries of a popped variable

-- the first i entries are counted
pub record Releasing (t : Parts) (moved : ValueChange) (waiting : List RuleCondition) (i : ℕ) (s0 : List ℕ) (w0 : Work) (s : List ℕ) (w : Work) : Type 0 where
  pub counters : CountersSoFar moved waiting i w0.counters w.counters
  pub goes_on : WorkGoesOn t s0 w0 s w
  pub firing : IsFiring t s w.stack.items w
  pub seen : (v : ℕ) → value_seen t s w.stack.items v ≡ value_seen t s0 w0.stack.items v
  pub left : left_to_do t s w.stack.items ≤ left_to_do t s0 w0.stack.items

-- the counter of a rule is set
module _ (t : Parts) (moved : ValueChange) (waiting : List RuleCondition) (i : ℕ) (s0 : List ℕ) (w0 : Work) (s : List ℕ) (w : Work) (counters : List ℕ) (k n : ℕ)
    (so_far : Releasing t moved waiting i s0 w0 s w) (next : CountersSoFar moved waiting (i + 1) w0.counters counters) (within : k < length w.counters) (is : counters ≡ set w.counters k n) where
  pub counted_firing : IsFiring t s w.stack.items (with_counters w counters)
  counted_firing = firing_as t s w.stack.items w (with_counters w counters) refl (ap length is ∙ length-set w.counters k n) refl (omega arith) so_far.firing

  -- and the rule doesn't have to fire
  pub released_on : (n ≡ 0 → IsRuleOn t w.layer k → get_or s (rule_at t k).var 0 ≡ (rule_at t k).new) → Releasing t moved waiting (i + 1) s0 w0 s (with_counters w counters)
  released_on here = search (arith, goes_on_more, goes_on_counted, within, goes_on_still, counted_firing)

  -- and the rule fires
  module _ (ranged : WellRanged t) (layered : IsLayered t) (on : IsRuleOn t w.layer k) (hold : AllHold (λ v. get_or s v 0) (rule_at t k).conditions) (changes : get_or s (rule_at t k).var 0 ≢ (rule_at t k).new) where
    -- there is room on the stack
    pub released_room : length w.stack.items < vec_capacity w.stack
    released_room =
        let fired = fired_firing t s (with_counters w counters) k ranged layered counted_firing on hold changes in
        let len = length-append w.stack.items ((rule_at t k).var ∷ []) in
        omega (arith, fired.running.room, fired.running.state.one_each, fired.room.variables)

    pub released_fired : (stack : Vec ℕ Global) → stack.items ≡ w.stack.items ++ (rule_at t k).var ∷ [] → vec_capacity w.stack ≤ vec_capacity stack
        → Releasing t moved waiting (i + 1) s0 w0 (set s (rule_at t k).var (rule_at t k).new) (with_stack (with_source (with_counters w counters) (rule_at t k).var k) stack)
    released_fired stack pushed capacity = record {
      counters = next;
      goes_on = goes_on_more t s0 w0 s w (set s (rule_at t k).var (rule_at t k).new) (with_stack (with_source (with_counters w counters) (rule_at t k).var k) stack) so_far.goes_on
          (goes_on_counted t s w counters k n (set s (rule_at t k).var (rule_at t k).new) (with_stack (with_source (with_counters w counters) (rule_at t k).var k) stack) within is
          (λ none on'. fired_value t s (with_counters w counters) k ranged layered counted_firing on hold changes)
          (let f = fired_goes_on t s (with_counters w counters) k ranged layered counted_firing on hold changes in record { layer = f.layer; off = f.off; sources = f.sources; kept = f.kept; fired = f.fired }));
      firing = subst (λ (xs : List ℕ). IsFiring t (set s (rule_at t k).var (rule_at t k).new) xs (with_stack (with_source (with_counters w counters) (rule_at t k).var k) stack)) (sym pushed)
          (firing_as t (set s (rule_at t k).var (rule_at t k).new) (w.stack.items ++ (rule_at t k).var ∷ []) (with_source (with_counters w counters) (rule_at t k).var k)
          (with_stack (with_source (with_counters w counters) (rule_at t k).var k) stack) refl refl refl capacity
          (fired_firing t s (with_counters w counters) k ranged layered counted_firing on hold changes));
      seen = subst (λ (xs : List ℕ). (v : ℕ) → value_seen t (set s (rule_at t k).var (rule_at t k).new) xs v ≡ value_seen t s0 w0.stack.items v) (sym pushed)
          (λ v. fired_seen t s (with_counters w counters) k ranged layered counted_firing on hold changes v ∙ so_far.seen v);
      left =
          (let le = fired_left t s (with_counters w counters) k ranged layered counted_firing on hold changes in
          let before = so_far.left in
          let len = ap length pushed in omega arith);
    }

-- the popped variable moved from its default
abbrev pub moved_to : Parts → List ℕ → ℕ → ValueChange
moved_to t s v = record { former = default_of t v; value = get_or s v 0 }

module _ (t : Parts) (index : List (List RuleCondition)) (v : ℕ) (s0 : List ℕ) (w0 : Work) (layered : IsLayered t) (is_index : IsFullIndex t index) (popped : IsAtWork t s0 (w0.stack.items ++ v ∷ []) w0) where
  pub can_release : WellRanged t → CanRecount (moved_to t s0 v) (waiting_at index v) w0.counters
  can_release ranged = search (arith, can_recount, seen_before, popped_differs)

  -- a rule of the layer whose counter is at zero has conditions that hold
  pub ready_so_far : (i : ℕ) (s : List ℕ) (w : Work) (counters : List ℕ) (k : ℕ)
      → Releasing t (moved_to t s0 v) (waiting_at index v) i s0 w0 s w → CountersSoFar (moved_to t s0 v) (waiting_at index v) (i + 1) w0.counters counters
      → IsRuleOn t w0.layer k → get_or counters k 0 ≡ 0 → AllHold (λ u. get_or s u 0) (rule_at t k).conditions
  ready_so_far i s w counters k so_far next on none =
      ready t w.layer s w.stack.items k layered so_far.firing.running (rw so_far.goes_on.layer on)
      (let a = next.so_far k (let l = popped.firing.room.one_each in omega (arith, on.exists)) in
      let b = left_over k (default_of t v) (i + 1) (waiting_at index v) in
      let d = popped_counts t w0.layer s0 w0.stack.items v popped.firing.running w0.counters popped.counts w0.layer k on in
      let e = none_own t w0.layer s0 w0.stack.items v popped.firing.running layered k on in
      let f = open_same (value_seen t s w.stack.items) (value_seen t s0 w0.stack.items) (rule_at t k).conditions so_far.seen in
      let x = is_index.each w0.layer v (default_of t v) k on in
      let y = is_index.each w0.layer v (get_or s0 v 0) k on in
      omega arith)

  -- all entries are counted
  pub at_work_again : (i : ℕ) (s : List ℕ) (w : Work) → Releasing t (moved_to t s0 v) (waiting_at index v) i s0 w0 s w → i ≡ length (waiting_at index v) → IsAtWork t s w.stack.items w
  at_work_again i s w so_far all = record {
    firing = so_far.firing;
    counts = λ m k on.
        (let a = counters_after (moved_to t s0 v) (waiting_at index v) i w0.counters w.counters all so_far.counters k (let l = popped.firing.room.one_each in omega (arith, on.exists)) in
        let b = popped_counts t w0.layer s0 w0.stack.items v popped.firing.running w0.counters popped.counts m k on in
        let e = open_same (value_seen t s w.stack.items) (value_seen t s0 w0.stack.items) (rule_at t k).conditions so_far.seen in
        let x = is_index.each m v (default_of t v) k on in
        let y = is_index.each m v (get_or s0 v 0) k on in
        omega arith);
  }

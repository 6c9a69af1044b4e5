-- When one rule fires, all variables that differ from their default are still forced.
use Rattle.sas_meaning.proofs.Imports.{common_steps, rules, ◌≡◌, ◌≢◌, ℕ, zero, suc, ◌<◌, Bool, true, cond, List, [], ◌∷◌, length, get_or, set, sym, ◌∙◌, ap, subst, inl, inr, arith, cases_eq, eqb_tells, get_or-set_same, get_or-set_other, length-set, slice_get, option_map_or, Fact, Variable, Effect, Parts, rule_at, range_of, HasValue, IsState, WellRanged, EffectFits, holds_at, rule_fits, AllHold, IsOnLayer, default_of, CanFire, LooksDown, IsLayered, new_value_of, value_with, IsClosed, differs, OnlyForced, HasFired, Changes, SameOff, equal_places}
use Rattle.sas_meaning.proofs.Layers.{AgreeBelow, agree_sym, closed_agrees, layer_decides, given_on, given_off}
use Rattle.sas_meaning.proofs.Rules.{new_value_is}
use Rattle.sas_meaning.proofs.Unique.{differs_decides}

pub differs_true : (t : Parts) (s : List ℕ) (v : ℕ) → get_or s v 0 ≢ default_of t v → differs t s v ≡ true
differs_true t s v ne = elim (differs_decides t s v) [ inl p ↦ absurd (ne p.0) | inr p ↦ p.1 ]

pub differs_not : (t : Parts) (s : List ℕ) (v : ℕ) → differs t s v ≡ true → get_or s v 0 ≢ default_of t v
differs_not t s v d = elim (differs_decides t s v) [ inl p ↦ (let e = p.1 in absurd cc) | inr p ↦ p.0 ]

-- a variable with the same value in two states differs from its default in both
pub differs_same : (t : Parts) (s s' : List ℕ) (v : ℕ) → get_or s v 0 ≡ get_or s' v 0 → differs t s v ≡ true → differs t s' v ≡ true
differs_same t s s' v same d = rw same at d

-- states that are the same off the layer agree below it
pub agree_off : (t : Parts) (layer : ℕ) (s s' : List ℕ) → SameOff t layer s s' → AgreeBelow t layer s s'
agree_off t layer s s' same = grind (arith, common_steps)

module _ (t : Parts) (layer : ℕ) (layered : IsLayered t) (k : ℕ) (d : Effect) (lt : k < length t.rules) where
  -- a condition that holds where all is forced holds under each closed set
  condition_given : (s : List ℕ) (set : ℕ → Bool) (c : Fact) → OnlyForced t layer s → IsClosed t layer s set
      → IsOnLayer t layer (get_or t.rules k d).var → LooksDown t (get_or t.rules k d).var c
      → get_or s c.var 0 ≡ c.value → value_with t layer s set c.var ≡ c.value
  condition_given s set c forced closed on down hold = elim (layer_decides t layer c.var) [
    | inr w ↦ given_off t layer s set c.var w.0 ∙ hold
    | inl w ↦ (let ne : c.value ≢ default_of t c.var = λ e. (let z : layer < layer = (down layer layer on w.0).1 e in omega arith) in
        let df : differs t s c.var ≡ true = differs_true t s c.var (λ e. ne (sym hold ∙ e)) in
        let in_set : set c.var ≡ true = forced.least set closed c.var w.0 df in
        given_on t layer s set c.var w.0 ∙ (ap (λ b. cond b (new_value_of t c.var) (default_of t c.var)) in_set ∙ (sym (forced.new c.var w.0 df) ∙ hold)))
  ]

  module _ (s : List ℕ) (within : (get_or t.rules k d).var < length s) where
    fired_off : IsOnLayer t layer (get_or t.rules k d).var → SameOff t layer s (set s (get_or t.rules k d).var (get_or t.rules k d).new)
    fired_off on v off = sym (get_or-set_other s (get_or t.rules k d).var v (get_or t.rules k d).new 0 (λ e. off (subst (λ x. IsOnLayer t layer x) (sym e) on)))

    pub forced_more : OnlyForced t layer s → IsOnLayer t layer (get_or t.rules k d).var → CanFire t (get_or t.rules k d)
        → AllHold (λ v. get_or s v 0) (get_or t.rules k d).conditions
        → OnlyForced t layer (set s (get_or t.rules k d).var (get_or t.rules k d).new)
    forced_more forced on fire hold = record { new = new; least = least }
      where
        other : (v : ℕ) → v ≢ (get_or t.rules k d).var → get_or (set s (get_or t.rules k d).var (get_or t.rules k d).new) v 0 ≡ get_or s v 0
        other v ne = get_or-set_other s (get_or t.rules k d).var v (get_or t.rules k d).new 0 ne

        still : (v : ℕ) → v ≢ (get_or t.rules k d).var → differs t (set s (get_or t.rules k d).var (get_or t.rules k d).new) v ≡ true → differs t s v ≡ true
        still v ne df = differs_same t (set s (get_or t.rules k d).var (get_or t.rules k d).new) s v (other v ne) df

        new : (v : ℕ) → IsOnLayer t layer v → differs t (set s (get_or t.rules k d).var (get_or t.rules k d).new) v ≡ true
            → get_or (set s (get_or t.rules k d).var (get_or t.rules k d).new) v 0 ≡ new_value_of t v
        new v on' df = grind (arith, common_steps, cases_eq, get_or-set_same, new_value_is, other, still)

        least : (set' : ℕ → Bool) → IsClosed t layer (set s (get_or t.rules k d).var (get_or t.rules k d).new) set'
            → (v : ℕ) → IsOnLayer t layer v → differs t (set s (get_or t.rules k d).var (get_or t.rules k d).new) v ≡ true → set' v ≡ true
        least set' closed' v on' df = elim (cases_eq v (get_or t.rules k d).var) [
          | inl e ↦ ap set' e ∙ closed k d lt on fire (λ j f lt'. condition_given s set' (get_or (get_or t.rules k d).conditions j f) forced closed on ((layered.rules k d lt fire).order j f lt') (hold j f lt'))
          | inr ne ↦ forced.least set' closed v on' (still v ne df)
        ]
          where
            closed : IsClosed t layer s set'
            closed = search (rules, arith, closed_agrees, agree_sym, agree_off, fired_off)

-- where every rule has fired, the variables that differ are a closed set
pub closed_when_fired : (t : Parts) (layer : ℕ) (s : List ℕ) → OnlyForced t layer s → ((k : ℕ) (d : Effect) → k < length t.rules → HasFired t layer s (get_or t.rules k d))
    → IsClosed t layer s (differs t s)
closed_when_fired t layer s forced done k d lt on fire hold = grind (arith, common_steps, differs_true, layer_decides, given_off, given_on, differs_decides, cond)

-- a write of another value to an equal place leaves fewer
pub fewer_equal : (xs ys : List ℕ) (k a : ℕ) → k < length xs → k < length ys → get_or xs k 0 ≡ get_or ys k 0 → a ≢ get_or ys k 0
    → equal_places (set xs k a) ys < equal_places xs ys
fewer_equal [] ys k a lt lt' e ne = absurd (omega arith)
fewer_equal (x ∷ xs) [] k a lt lt' e ne = absurd (omega arith)
fewer_equal (x ∷ xs) (y ∷ ys) zero a lt lt' e ne = grind (arith, common_steps, eqb_tells)
fewer_equal (x ∷ xs) (y ∷ ys) (suc k) a lt lt' e ne = let ih = fewer_equal xs ys k a (omega arith) (omega arith) e ne in omega arith

pub state_set : (t : Parts) (s : List ℕ) (v a : ℕ) → IsState t.variables s → a < range_of t.variables v → IsState t.variables (set s v a)
state_set t s v a state fits = grind (arith, common_steps, length-set, cases_eq, get_or-set_same, get_or-set_other)

-- a fact that exists is on a variable that exists
pub fact_within : (t : Parts) (v x : ℕ) → x < range_of t.variables v → v < length t.variables
fact_within t v x fits = within t.variables v x fits
  where
    within : (vs : List Variable) (v x : ℕ) → x < option_map_or (λ (y : Variable). length y.values) (slice_get vs v) 0 → v < length vs
    within [] v x fits = absurd (omega arith)
    within (y ∷ ys) zero x fits = omega arith
    within (y ∷ ys) (suc v) x fits = let ih = within ys v x fits in omega arith

-- a rule's variable has its new value
pub rule_new : (t : Parts) → WellRanged t → (k : ℕ) (d : Effect) → k < length t.rules → HasValue t.variables (get_or t.rules k d).var (get_or t.rules k d).new
rule_new t ranged k d lt = (holds_at (EffectFits t.variables) d t.rules ranged.rules.each k lt).new

-- a rule's condition is on a variable of the task
pub condition_within : (t : Parts) (k j : ℕ) (c : Fact) → WellRanged t → k < length t.rules → j < length (rule_at t k).conditions
    → (get_or (rule_at t k).conditions j c).var < length t.variables
condition_within t k j c ranged lt lt' = grind (arith, common_steps, fact_within, holds_at, rule_fits)

-- what one rule of the task changes
pub record Fired (t : Parts) (layer : ℕ) (s : List ℕ) (rule : Effect) : Type 0 where
  pub default : get_or s rule.var 0 ≡ default_of t rule.var
  pub state : IsState t.variables (set s rule.var rule.new)
  pub forced : OnlyForced t layer (set s rule.var rule.new)
  pub off : SameOff t layer s (set s rule.var rule.new)
  pub fewer : equal_places (set s rule.var rule.new) t.init < equal_places s t.init

pub fired_there : (t : Parts) (layer : ℕ) (s : List ℕ) (k : ℕ) (d : Effect) → WellRanged t → IsLayered t → IsState t.variables s → OnlyForced t layer s
    → k < length t.rules → Changes t layer s (get_or t.rules k d) → Fired t layer s (get_or t.rules k d)
fired_there t layer s k d ranged layered state forced lt ch = record {
  default = default;
  state = state_set t s (get_or t.rules k d).var (get_or t.rules k d).new state (rule_new t ranged k d lt);
  forced = forced_more t layer layered k d lt s (omega (arith, within)) forced ch.on ch.can ch.hold;
  off = fired_off t layer layered k d lt s (omega (arith, within)) ch.on;
  fewer = fewer_equal s t.init (get_or t.rules k d).var (get_or t.rules k d).new (omega (arith, within)) (omega (arith, within, ranged.init.one_each)) default ch.can;
}
  where
    within : (get_or t.rules k d).var < length t.variables
    within = fact_within t (get_or t.rules k d).var (get_or t.rules k d).new (rule_new t ranged k d lt)

    default : get_or s (get_or t.rules k d).var 0 ≡ default_of t (get_or t.rules k d).var
    default = elim (differs_decides t s (get_or t.rules k d).var) [
      | inl p ↦ p.0
      | inr p ↦ absurd (ch.new (forced.new (get_or t.rules k d).var ch.on p.1 ∙ new_value_is t k d layered lt ch.can))
    ]

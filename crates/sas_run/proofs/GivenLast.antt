-- The values that the last effects that fire give, and the step that they make.
use Rattle.std.proofs.lemmas.Grind.{common_steps}
use Rattle.std.specs.Bool.{if◌then◌else◌}
use Rattle.sas_run.proofs.Imports.{◌≡◌, ℕ, ◌+◌, ◌<◌, ◌⊎◌, List, length, take, get_or, set, Option, None, Some, inl, inr, subst, sym, ap, ◌∙◌, arith, cases_eq, get_or-set_same, get_or-set_other, length-set, take_more, same_Some, Effect, Operator, Parts, no_effect, operator_at, effect_at, IsState, WellRanged, EffectFits, HasValue, Settles, given_to, value_after, IsGivenTo, ForcedStep, one, steps, written, written_more, written_length, Fires, fires, so_fires, fires_so, false_from_ne_true}
use Rattle.sas_run.proofs.NextStates.{effects_fit}

-- one more effect that fires is given, and written over the values so far
given_more : (s : List ℕ) (given : List (Option ℕ)) (values : List ℕ) (v new : ℕ) → v < length given → v < length values
    → ((var : ℕ) → value_after given s var ≡ get_or values var 0) → (var : ℕ) → value_after (set given v (Some new)) s var ≡ get_or (set values v new) var 0
given_more s given values v new in_given in_values same var = grind (arith, common_steps, cases_eq, get_or-set_same, get_or-set_other)

-- the values after one more effect
written_next : (s : List ℕ) (effects : List Effect) (n : ℕ) → n < length effects → written s (take (n + 1) effects) s ≡ one s (get_or effects n no_effect) (written s (take n effects) s)
written_next s effects n lt = ap (λ (es : List Effect). written s es s) (take_more effects n no_effect lt) ∙ written_more s (take n effects) (get_or effects n no_effect) s

module _ (s : List ℕ) (o : Operator) (n : ℕ) (given : List (Option ℕ)) (lt : n < length o.effects)
    (same : (var : ℕ) → value_after given s var ≡ get_or (written s (take n o.effects) s) var 0) where
  -- it fires
  pub fires_next : Fires s (effect_at o n) → (effect_at o n).var < length given → (effect_at o n).var < length s
      → (var : ℕ) → value_after (set given (effect_at o n).var (Some (effect_at o n).new)) s var ≡ get_or (written s (take (n + 1) o.effects) s) var 0
  fires_next hold in_given in_state var =
      let e = effect_at o n in
      let values = written s (take n o.effects) s in
      given_more s given values e.var e.new in_given (omega (arith, written_length s (take n o.effects) s)) same var
      ∙ ap (λ (list : List ℕ). get_or list var 0) (sym (written_next s o.effects n lt ∙ ap (λ b. if b then set values e.var e.new else values) (so_fires s e hold)))

  -- it doesn't
  pub rests_next : (Fires s (effect_at o n) → ⊥) → (var : ℕ) → value_after given s var ≡ get_or (written s (take (n + 1) o.effects) s) var 0
  rests_next not var =
      let e = effect_at o n in
      let values = written s (take n o.effects) s in
      same var ∙ ap (λ (list : List ℕ). get_or list var 0)
      (sym (written_next s o.effects n lt ∙ ap (λ b. if b then set values e.var e.new else values) (false_from_ne_true (fires s e) (λ yes. not (fires_so s e yes)))))

-- a value that is given now is that of the effect, or was given before
given_now : (given : List (Option ℕ)) (v new var value : ℕ) → v < length given → given_to (set given v (Some new)) var ≡ Some value
    → ((v ≡ var) × (new ≡ value)) ⊎ (given_to given var ≡ Some value)
given_now given v new var value within at = elim (cases_eq v var) [
  | inl same ↦ inl (same, same_Some new value (sym (ap (given_to (set given v (Some new))) (sym same) ∙ get_or-set_same given v (Some new) None within) ∙ at))
  | inr other ↦ inr (sym (get_or-set_other given v var (Some new) None (λ same. other (sym same))) ∙ at)
]

-- what an effect gives is in its variable's range
pub gives_on_effects : (p : Parts) (o : Operator) (n : ℕ) (given : List (Option ℕ)) → n < length o.effects → (effect_at o n).var < length given → EffectFits p.variables (effect_at o n)
    → IsGivenTo p o given → IsGivenTo p o (set given (effect_at o n).var (Some (effect_at o n).new))
gives_on_effects p o n given lt within fits on =
    let v = (effect_at o n).var in
    let new = (effect_at o n).new in
    record {
      one_each = length-set given v (Some new) ∙ on.one_each;
      value = λ var value at. elim (given_now given v new var value within at) [
        | inl here ↦ subst (λ k. HasValue p.variables k value) here.0 (subst (HasValue p.variables v) here.1 fits.new)
        | inr before ↦ on.value var value before
      ];
      effect = λ var value at. elim (given_now given v new var value within at) [
        | inl here ↦ (n, lt, here.0)
        | inr before ↦ on.effect var value before
      ];
    }

-- settling these values makes the step
pub forced_from : (p : Parts) (s : List ℕ) (operator : ℕ) (given : List (Option ℕ)) (s' next : List ℕ) → WellRanged p → operator < length p.operators → IsState p.variables s
    → ((var : ℕ) → value_after given s var ≡ get_or (written s (operator_at p operator).effects s) var 0)
    → ((var : ℕ) → get_or s' var 0 ≡ value_after given s var) → Settles p s' next → ForcedStep p s (operator_at p operator) next
forced_from p s operator given s' next ranged lt state last is settles = steps p s (operator_at p operator) (effects_fit p operator ranged lt) state next (record {
  state = settles.state;
  basic = λ var basic. sym (is var ∙ last var) ∙ settles.basic var basic;
  settled = settles.settled;
})

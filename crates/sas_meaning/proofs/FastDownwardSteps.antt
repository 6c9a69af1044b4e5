-- Steps of Fast Downward's search: they are unique, exist where the preconditions hold, and are those of `Step` where effects agree.
use Rattle.sas_meaning.proofs.Imports.{common_steps, rules, ◌≡◌, ℕ, ◌<◌, List, length, get_or, slice_index, refl, sym, ◌∙◌, inl, inr, arith, holds_at, All, Contains, All-contains, Effect, Operator, Parts, no_effect, effect_at, HasValue, IsState, WellRanged, IsBasic, IsLayered, SameBasic, Settles, Fires, Reachable, Initial, Next, FiresLast, ForcedStep, Step, FastDownwardReachable, Start, Onward, written, StepExists, FastDownwardStepExists, FastDownwardStepIsOne, StepIsFastDownwards, FastDownwardStepIsStep, FastDownwardReaches, FastDownwardReachesNoMore, FastDownwardWrites}
use Rattle.sas_meaning.proofs.Exists.{settled_exists}
use Rattle.sas_meaning.proofs.Forced.{fact_within}
use Rattle.sas_meaning.proofs.Unique.{settled_is_one}
use Rattle.sas_meaning.proofs.Writing.{LastOn, last_or_none, written_kept, written_last, written_state}

abbrev Fits : Parts → Effect → Type 0
Fits p e = HasValue p.variables e.var e.new

-- the effects of an operator of a task set values of its variables
fit : (p : Parts) (o : Operator) → WellRanged p → Contains p.operators o → All (Fits p) o.effects
fit p o ranged (k, lt, is) j d within = grind (arith, common_steps, holds_at, within)

-- they set basic variables
on_basic : (p : Parts) (o : Operator) → IsLayered p → Contains p.operators o → All (λ (e : Effect). IsBasic p e.var) o.effects
on_basic p o layered among = All-contains (λ (x : Operator). All (λ (e : Effect). IsBasic p e.var) x.effects) p.operators o layered.effects among

module _ (p : Parts) (s : List ℕ) (o : Operator) where
  -- the last effect on a variable, as the definition says it
  fires_last : (v : ℕ) (w : LastOn s o.effects v) → FiresLast s o w.place
  fires_last v w = record { exists = w.exists; fires = w.fires; last = λ later behind lt hold same. w.last later behind lt hold (same ∙ w.on) }

  -- its value
  set_to : (s' : List ℕ) → ForcedStep p s o s' → (v : ℕ) → IsBasic p v → (w : LastOn s o.effects v) → get_or s' v 0 ≡ (get_or o.effects w.place no_effect).new
  set_to s' step v basic w = search (rules, arith, fires_last)

  -- the same value in two next states
  same_value : (a b : List ℕ) → ForcedStep p s o a → ForcedStep p s o b → SameBasic p a b
  same_value a b to_a to_b v basic = elim (last_or_none s o.effects v) [
    | inl w ↦ set_to a to_a v basic w ∙ sym (set_to b to_b v basic w)
    | inr kept ↦ to_a.kept v basic kept ∙ sym (to_b.kept v basic kept)
  ]

  module _ (effects_fit : All (Fits p) o.effects) (state : IsState p.variables s) where
    within : (v : ℕ) → LastOn s o.effects v → v < length s
    within v w = grind (arith, common_steps, fact_within)

    settles : (s' : List ℕ) → ForcedStep p s o s' → Settles p (written s o.effects s) s'
    settles s' step = record { state = step.state; basic = basic; settled = step.settled }
      where
        basic : SameBasic p (written s o.effects s) s'
        basic v is = elim (last_or_none s o.effects v) [
          | inl w ↦ written_last s o.effects s v w (within v w) ∙ sym (set_to s' step v is w)
          | inr kept ↦ written_kept s o.effects s v kept ∙ sym (step.kept v is kept)
        ]

    pub steps : (s' : List ℕ) → Settles p (written s o.effects s) s' → ForcedStep p s o s'
    steps s' to = record {
      state = to.state;
      settled = to.settled;
      set = λ effect basic last. sym (to.basic (effect_at o effect).var basic) ∙ written_last s o.effects s (effect_at o effect).var (last_on effect last) (within (effect_at o effect).var (last_on effect last));
      kept = λ v basic kept. sym (to.basic v basic) ∙ written_kept s o.effects s v kept;
    }
      where
        last_on : (effect : ℕ) → FiresLast s o effect → LastOn s o.effects (effect_at o effect).var
        last_on effect last = record { place = effect; exists = last.exists; fires = last.fires; on = refl; last = last.last }

pub writes : FastDownwardWrites
writes p s o s' ranged state among = (
  λ step. (step.applicable, settles p s o (fit p o ranged among) state s' step.forced),
  λ both. record { applicable = both.0; forced = steps p s o (fit p o ranged among) state s' both.1 },
)

-- whether the preconditions hold or not, there is one next state
pub forced_exists : (p : Parts) (s : List ℕ) (o : Operator) → WellRanged p → IsLayered p → IsState p.variables s → Contains p.operators o → (s' : List ℕ) × ForcedStep p s o s'
forced_exists p s o ranged layered state among =
    let effects_fit = fit p o ranged among in
    let next = settled_exists p (written s o.effects s) ranged layered (written_state s p o.effects s effects_fit state) in
    (next.0, steps p s o effects_fit state next.0 next.1)

pub forced_is_one : (p : Parts) (s : List ℕ) (o : Operator) (a b : List ℕ) → IsLayered p → ForcedStep p s o a → ForcedStep p s o b → a ≡ b
forced_is_one p s o a b layered to_a to_b =
    settled_is_one p a a b layered
    (record { state = to_a.state; basic = λ v e. refl; settled = to_a.settled })
    (record { state = to_b.state; basic = same_value p s o a b to_a to_b; settled = to_b.settled })

pub step_forced : (p : Parts) (s : List ℕ) (o : Operator) (s' : List ℕ) → Step p s o s' → ForcedStep p s o s'
step_forced p s o s' step = grind (arith, common_steps)

pub exists_there : FastDownwardStepExists
exists_there p s o ranged layered state among applicable =
    let next = forced_exists p s o ranged layered state among in (next.0, record { applicable = applicable; forced = next.1 })

pub is_one_there : FastDownwardStepIsOne
is_one_there p s o a b layered to_a to_b = forced_is_one p s o a b layered to_a.forced to_b.forced

pub step_there : StepIsFastDownwards
step_there p s o s' step = record { applicable = step.applicable; forced = step_forced p s o s' step }

pub step_here : FastDownwardStepIsStep
step_here p s o s' layered among agree step = record {
  applicable = step.applicable;
  agree = agree;
  state = step.forced.state;
  settled = step.forced.settled;
  set = set;
  kept = step.forced.kept;
}
  where
    set : All (λ (e : Effect). Fires s e → slice_index s' e.var ≡ e.new) o.effects
    set k d lt hold = elim (last_or_none s o.effects (get_or o.effects k d).var) [
      | inl w ↦ set_to p s o s' step.forced (get_or o.effects k d).var (on_basic p o layered among k d lt) w ∙ sym (agree k d lt w.place no_effect w.exists hold w.fires (sym w.on))
      | inr kept ↦ absurd (kept k d lt hold refl)
    ]

pub step_exists : StepExists
step_exists p s o ranged layered state among applicable agree =
    let next = exists_there p s o ranged layered state among applicable in
    (next.0, step_here p s o next.0 layered among agree next.1)

reach : (p : Parts) {s : List ℕ} → Reachable p s → FastDownwardReachable p s
reach p (Initial starts) = Start starts
reach p (Next {s} {s'} o before among step) = Onward o (reach p before) among (step_there p s o s' step)

pub reaches : FastDownwardReaches
reaches p s reachable = reach p reachable

pub no_more : FastDownwardReachesNoMore
no_more p s layered agree reachable = back reachable
  where
    back : {s : List ℕ} → FastDownwardReachable p s → Reachable p s
    back (Start starts) = Initial starts
    back (Onward {s} {s'} o before among step) =
        let reached = back before in
        Next o reached among (step_here p s o s' layered among (agree s o reached among step.applicable) step)

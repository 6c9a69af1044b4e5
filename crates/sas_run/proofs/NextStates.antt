-- An applicable operator whose effects agree has a step. It is decidable whether an operator has a
-- step.
use Rattle.std.proofs.lemmas.Grind.{common_steps}
use Rattle.sas_run.proofs.Imports.{err_from_is_err_and, ◌≡◌, ℕ, zero, suc, ◌<◌, ◌⊎◌, List, [], ◌∷◌, length, get_or, set, slice_index, refl, sym, ap, ◌∙◌, none-some, layer_of, ListsDerived, inl, inr, arith, All, cases_eq, get_or-set_same, get_or-set_other, All-nil, All-cons, All-head, All-tail, Effect, Operator, Parts, operator_at, HasValue, IsState, WellRanged, holds_at, IsBasic, IsLayered, Settles, Fires, Agree, IsApplicable, StepFault, IsApplied, IsStepFault, Step, hold_or_not, Untouched, state_set, fact_within, settled_exists, settled_where_empty}
use Rattle.sas_run.specs.declared.steps.StepFault.TheVariants.{NotApplicable, Conflict}
use Rattle.sas_run.proofs.Choosing.{no_fact}
use Rattle.sas_run.proofs.Going.{passed_on}

-- if a property is decidable for each item, it is decidable for all items
all_or_not : {A : Type 0} (P : A → Type 0) → ((x : A) → P x ⊎ (P x → ⊥)) → (xs : List A) → All P xs ⊎ (All P xs → ⊥)
all_or_not P each [] = inl (All-nil P)
all_or_not P each (x ∷ xs) = elim (each x) [
  | inr n ↦ inr (λ all. n (All-head P x xs all))
  | inl y ↦ elim (all_or_not P each xs) [
    | inl h ↦ inl (All-cons P x xs y h)
    | inr n ↦ inr (λ all. n (All-tail P x xs all))
  ]
]

-- two effects set no variable to different values
abbrev AgreesWith : List ℕ → Effect → Effect → Type 0
AgreesWith s e f = Fires s e → Fires s f → e.var ≡ f.var → e.new ≡ f.new

agrees_or_not : (s : List ℕ) (e f : Effect) → AgreesWith s e f ⊎ (AgreesWith s e f → ⊥)
agrees_or_not s e f = grind (arith, hold_or_not (slice_index s) e.conditions, hold_or_not (slice_index s) f.conditions, cases_eq e.var f.var, cases_eq e.new f.new)

-- whether the effects that fire agree
pub agree_or_not : (s : List ℕ) (effects : List Effect) → Agree s effects ⊎ (Agree s effects → ⊥)
agree_or_not s effects = search (arith, all_or_not, agrees_or_not)

abbrev Sets : List ℕ → List ℕ → Effect → Type 0
Sets s s' e = Fires s e → get_or s' e.var 0 ≡ e.new

-- a state in which the effects that fire have set their variables, and the others are as they were
record Written (p : Parts) (s : List ℕ) (effects : List Effect) : Type 0 where
  result : List ℕ
  state : IsState p.variables result
  sets : All (Sets s result) effects
  kept : (v : ℕ) → All (Untouched s v) effects → get_or result v 0 ≡ get_or s v 0

module _ (p : Parts) (s : List ℕ) (state_s : IsState p.variables s) where
  -- one more effect, which fires
  write_one : (e : Effect) (es : List Effect) → HasValue p.variables e.var e.new → Agree s (e ∷ es) → Fires s e → Written p s es → Written p s (e ∷ es)
  write_one e es fits agree fires r = record {
    result = set r.result e.var e.new;
    state = state_set p r.result e.var e.new r.state fits;
    sets = All-cons (Sets s (set r.result e.var e.new)) e es (λ _. here) others;
    kept = λ v kept. get_or-set_other r.result e.var v e.new 0 (λ is. All-head (Untouched s v) e es kept fires (sym is)) ∙ r.kept v (All-tail (Untouched s v) e es kept);
  }
    where
      here : get_or (set r.result e.var e.new) e.var 0 ≡ e.new
      here = get_or-set_same r.result e.var e.new 0 (let within = fact_within p e.var e.new fits in let one_each = r.state.one_each in omega arith)

      others : All (Sets s (set r.result e.var e.new)) es
      others k d lt fires' = grind (arith, cases_eq (get_or es k d).var e.var, here, get_or-set_other r.result e.var (get_or es k d).var e.new 0, r.sets k d, agree zero e (omega arith) (suc k) d)

  write : (effects : List Effect) → All (λ (e : Effect). HasValue p.variables e.var e.new) effects → Agree s effects → Written p s effects
  write [] fits agree = record { result = s; state = state_s; sets = All-nil (Sets s s); kept = λ v _. refl }
  write (e ∷ es) fits agree = more (write es (All-tail (λ (f : Effect). HasValue p.variables f.var f.new) e es fits) behind)
    where
      behind : Agree s es
      behind k d lt j d' lt' = agree (suc k) d (omega arith) (suc j) d' (omega arith)

      more : Written p s es → Written p s (e ∷ es)
      more r = elim (hold_or_not (slice_index s) e.conditions) [
        | inl fires ↦ write_one e es (All-head (λ (f : Effect). HasValue p.variables f.var f.new) e es fits) agree fires r
        | inr n ↦ record {
          result = r.result;
          state = r.state;
          sets = All-cons (Sets s r.result) e es (λ fires. absurd (n fires)) r.sets;
          kept = λ v kept. r.kept v (All-tail (Untouched s v) e es kept);
        }
      ]

-- the effects of an operator of the task set basic variables to values in their ranges
pub effects_fit : (p : Parts) (operator : ℕ) → WellRanged p → operator < length p.operators
    → All (λ (e : Effect). HasValue p.variables e.var e.new) (operator_at p operator).effects
effects_fit p operator ranged lt k d within = grind (arith, common_steps, holds_at)

pub effects_basic : (p : Parts) (operator : ℕ) → IsLayered p → operator < length p.operators
    → All (λ (e : Effect). IsBasic p e.var) (operator_at p operator).effects
effects_basic p operator layered lt = layered.effects operator (record { name = []; prevail = []; effects = []; cost = 0 }) lt

-- the effects of an applicable operator can be applied if they agree
pub applied_exists : (p : Parts) (s : List ℕ) (o : Operator) → All (λ (e : Effect). HasValue p.variables e.var e.new) o.effects
    → IsState p.variables s → IsApplicable s o → Agree s o.effects → (s' : List ℕ) × IsApplied p s o s'
applied_exists p s o fits state applicable agree =
    let r = write p s state o.effects fits agree in
    (r.result, record { applicable = applicable; agree = agree; state = r.state; set = r.sets; kept = r.kept })

-- where no variable is derived, each state is settled
pub settled_if_basic : (p : Parts) (s : List ℕ) → ((var : ℕ) → IsBasic p var) → IsState p.variables s → Settles p s s
settled_if_basic p s basic state = grind (arith, common_steps, settled_where_empty)

-- settling the result makes the step
pub step_from_applied : (p : Parts) (s : List ℕ) (o : Operator) (s' next : List ℕ) → All (λ (e : Effect). IsBasic p e.var) o.effects
    → IsApplied p s o s' → Settles p s' next → Step p s o next
step_from_applied p s o s' next basic a settles = grind (arith, common_steps)

-- ---- the derived variables that a step changed

-- effects leave them as they are
pub applied_lists : (p : Parts) (s : List ℕ) (o : Operator) (s' next listed : List ℕ) → All (λ (e : Effect). IsBasic p e.var) o.effects
    → IsApplied p s o s' → ListsDerived p s' next listed → ListsDerived p s next listed
applied_lists p s o s' next listed basic applied lists = record {
  exist = lists.exist;
  each = λ layer var on. elim (lists.each layer var on) [
    | inr there ↦ inr there
    | inl same ↦ inl (same ∙ applied.kept var (λ k e lt fires is. none-some layer (sym (basic k e lt) ∙ (ap (layer_of p.variables) is ∙ on))))
  ];
}

-- where there are none, none changed
pub lists_no_derived : (p : Parts) (s s' : List ℕ) → ((var : ℕ) → IsBasic p var) → ListsDerived p s s' []
lists_no_derived p s s' basic = record {
  exist = All-nil (λ (var : ℕ). var < length p.variables);
  each = λ layer var on. absurd (none-some layer (sym (basic var) ∙ on));
}

-- what a step needs
pub ruleset stepping = (common_steps, step_from_applied, effects_basic, settled_if_basic, passed_on, err_from_is_err_and)

pub step_exists : (p : Parts) (s : List ℕ) (operator : ℕ) → WellRanged p → IsLayered p → IsState p.variables s → operator < length p.operators
    → IsApplicable s (operator_at p operator) → Agree s (operator_at p operator).effects → (next : List ℕ) × Step p s (operator_at p operator) next
step_exists p s operator ranged layered state lt applicable agree =
    let a = applied_exists p s (operator_at p operator) (effects_fit p operator ranged lt) state applicable agree in
    let b = settled_exists p a.0 ranged layered a.1.state in
    (b.0, step_from_applied p s (operator_at p operator) a.0 b.0 (effects_basic p operator layered lt) a.1 b.1)

-- an applicable operator has a step, or its effects that fire conflict
pub step_or_conflict : (p : Parts) (s : List ℕ) (operator : ℕ) → WellRanged p → IsLayered p → IsState p.variables s → operator < length p.operators
    → IsApplicable s (operator_at p operator) → ((next : List ℕ) × Step p s (operator_at p operator) next) ⊎ (Agree s (operator_at p operator).effects → ⊥)
step_or_conflict p s operator ranged layered state lt can = elim (agree_or_not s (operator_at p operator).effects) [
  | inr conflict ↦ inr conflict
  | inl agree ↦ inl (step_exists p s operator ranged layered state lt can agree)
]

-- the fault of an operator that is applicable is a conflict
pub fault_is_conflict : (s : List ℕ) (o : Operator) (fault : StepFault) → IsApplicable s o → IsStepFault s o fault → Agree s o.effects → ⊥
fault_is_conflict s o (NotApplicable fact) can f agree = f.1.missed no_fact (can f.0 no_fact f.1.exists)
fault_is_conflict s o (Conflict effect) can f agree = grind (arith, common_steps)

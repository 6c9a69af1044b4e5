-- Making changes on different variables one after another.
use Rattle.std.proofs.lemmas.Grind.{common_steps}
use Rattle.sas_run.proofs.Imports.{◌≡◌, ◌≢◌, ℕ, ◌+◌, ◌<◌, List, [], ◌∷◌, ◌++◌, length, get_or, set, Option, None, Some, sym, ◌∙◌, ap, subst, arith, filter_map, option_map, All, cons_option, cases_eq, get_or-set_same, get_or-set_other, get_or-map, length-map, All-nil, All-cons, All-head, All-tail, All-map, same_Some, Replaces, AreMade, IsPlainStep, OldHolds, IsApplied, Change, Effect, Fact, Operator, Parts, plain_effect, plain_effects, change_of, operator_at, effect_at, HasValue, IsState, WellRanged, IsBasic, IsLayered, Holds, AllHold, preconditions, old_fact, Fires, fact_within, state_set, no_effect, as_many_effects, effect_is_plain}
use Rattle.sas_run.specs.PlainSteps.{AreApart}
use Rattle.sas_run.proofs.NextStates.{effects_fit, effects_basic}
use Rattle.sas_run.proofs.Deleted.{all_front, all_behind, DeletedSoFar, deleted_more}

-- a default for indices that are out of range
abbrev pub no_change : Change
no_change = record { var = 0; old = None; new = 0 }

-- none of the first n changes is on the variable
abbrev pub Untouched : List Change → ℕ → ℕ → Type 0
Untouched changes n var = (k : ℕ) (d : Change) → k < n → (get_or changes k d).var ≢ var

-- the first n changes are made in s, which gives s'
pub record MadeSoFar (p : Parts) (s : List ℕ) (changes : List Change) (n : ℕ) (s' : List ℕ) : Type 0 where
  pub state : IsState p.variables s'
  pub set : (k : ℕ) (d : Change) → k < n → get_or s' (get_or changes k d).var 0 ≡ (get_or changes k d).new
  pub kept : (var : ℕ) → Untouched changes n var → get_or s' var 0 ≡ get_or s var 0

-- one more change, on another variable than those before it
module _ (p : Parts) (s s' : List ℕ) (changes : List Change) (n : ℕ) (made : MadeSoFar p s changes n s') (apart : AreApart changes) (some : n < length changes)
    (change : Change) (at : (d : Change) → get_or changes n d ≡ change) (exists : change.var < length p.variables) where
  fresh : Untouched changes n change.var
  fresh k d lt same = apart k n d lt some (same ∙ ap (λ (c : Change). c.var) (sym (at d)))

  in_state : change.var < length s'
  in_state = let one_each = made.state.one_each in omega arith

  now_set : (k : ℕ) (d : Change) → k < n + 1 → get_or (set s' change.var change.new) (get_or changes k d).var 0 ≡ (get_or changes k d).new
  now_set k d lt = grind (arith, cases_eq k n, get_or-set_same s' change.var change.new 0, get_or-set_other s' change.var (get_or changes k d).var change.new 0, made.set k d, at d, in_state, fresh k d)

  -- a variable that neither the changes so far nor this one change
  fewer : (var : ℕ) → Untouched changes (n + 1) var → Untouched changes n var
  fewer var not k d lt = not k d (omega arith)

  another : (var : ℕ) → Untouched changes (n + 1) var → var ≢ change.var
  another var not same = not n no_change (omega arith) (ap (λ (c : Change). c.var) (at no_change) ∙ sym same)

  pub one_more_made : HasValue p.variables change.var change.new → MadeSoFar p s changes (n + 1) (set s' change.var change.new)
  one_more_made fits = grind (arith, state_set, set, now_set, get_or-set_other, another, fewer)

  -- what it deletes
  pub one_more_deleted : (deleted : List Fact) → DeletedSoFar p (Untouched changes n) n s s' deleted → IsBasic p change.var → (deleted' : List Fact)
      → Replaces s' (record { var = change.var; value = change.new }) deleted deleted' → DeletedSoFar p (Untouched changes (n + 1)) (n + 1) s (set s' change.var change.new) deleted'
  one_more_deleted deleted so_far basic = deleted_more p (Untouched changes n) (Untouched changes (n + 1)) n s s' deleted so_far change.var change.new in_state fresh
      (λ var not. (fewer var not, λ same. another var not (sym same))) basic exists

-- ---- making the changes is applying the effects

-- an effect without conditions fires
fires : (s : List ℕ) (c : Change) → Fires s (plain_effect c)
fires s c = All-nil (Holds (λ v. get_or s v 0))

module _ (o : Operator) (changes : List Change) (effects : o.effects ≡ plain_effects changes) where
  -- a property of each change as an effect is a property of each effect
  pub of_effects : (P : Effect → Type 0) → All (λ c. P (plain_effect c)) changes → All P o.effects
  of_effects P each = subst (All P) (sym effects) (All-map P plain_effect changes each)

  pub of_changes : (P : Effect → Type 0) → All P o.effects → All (λ c. P (plain_effect c)) changes
  of_changes P each k d lt = subst P (get_or-map plain_effect changes k d no_effect lt)
      (subst (All P) effects each k no_effect (omega (arith, lt, length-map changes plain_effect)))

  -- each effect fires, and makes its change
  pub change_made : (s : List ℕ) (k : ℕ) (d : Change) → k < length o.effects → Fires s (effect_at o k) × (get_or changes k d ≡ change_of (effect_at o k))
  change_made s k d lt =
      let is = effect_is_plain o changes effects k d (omega (arith, as_many_effects o changes effects, lt)) in
      (subst (Fires s) (sym is) (fires s (get_or changes k d)), ap change_of (sym is))

-- they exist, and are on basic variables
module _ (p : Parts) (operator : ℕ) (exists : operator < length p.operators) (changes : List Change) (effects : (operator_at p operator).effects ≡ plain_effects changes) where
  pub changes_fit : WellRanged p → All (λ (c : Change). HasValue p.variables c.var c.new) changes
  changes_fit ranged = of_changes (operator_at p operator) changes effects (λ (e : Effect). HasValue p.variables e.var e.new)
      (effects_fit p operator ranged exists)

  pub changes_within : WellRanged p → All (λ (c : Change). c.var < length p.variables) changes
  changes_within ranged = grind (arith, length, fact_within, changes_fit)

  pub changes_basic : IsLayered p → All (λ (c : Change). IsBasic p c.var) changes
  changes_basic layered = of_changes (operator_at p operator) changes effects (λ (e : Effect). IsBasic p e.var) (effects_basic p operator layered exists)

pub applied_plainly : (p : Parts) (s : List ℕ) (o : Operator) (changes : List Change) (s' : List ℕ) → AllHold (λ v. get_or s v 0) (preconditions o)
    → IsPlainStep o changes → AreMade p s changes s' → IsApplied p s o s'
applied_plainly p s o changes s' applicable plain made =
    let set_each = of_effects o changes plain.effects (λ (e : Effect). get_or s' e.var 0 ≡ e.new) made.set in
    record {
      applicable = applicable;
      agree = λ k d lt j e lt' _ _ same. sym (set_each k d lt) ∙ ap (λ v. get_or s' v 0) same ∙ set_each j e lt';
      state = made.state;
      set = λ k d lt _. set_each k d lt;
      kept = λ var not. made.kept var (λ k d lt. of_changes o changes plain.effects (λ (e : Effect). Fires s e → e.var ≢ var) not k d lt (fires s (get_or changes k d)));
    }

-- ---- the old values that changes require

one_old_holds : (s : List ℕ) (var : ℕ) (old : Option ℕ) (facts : List Fact) → ((value : ℕ) → old ≡ Some value → get_or s var 0 ≡ value)
    → AllHold (λ v. get_or s v 0) facts → AllHold (λ v. get_or s v 0) (cons_option (option_map (λ (value : ℕ). record { var = var; value = value }) old) facts)
one_old_holds s var old facts holds all = grind (arith, All-cons)

one_old_held : (s : List ℕ) (var : ℕ) (old : Option ℕ) (facts : List Fact) → AllHold (λ v. get_or s v 0) (cons_option (option_map (λ (value : ℕ). record { var = var; value = value }) old) facts)
    → ((value : ℕ) → old ≡ Some value → get_or s var 0 ≡ value) × AllHold (λ v. get_or s v 0) facts
one_old_held s var None facts all = ((λ value is. absurd cc), all)
one_old_held s var (Some old) facts all = (
  (λ value is. All-head (Holds (λ v. get_or s v 0)) (record { var = var; value = old }) facts all ∙ same_Some old value is),
  All-tail (Holds (λ v. get_or s v 0)) (record { var = var; value = old }) facts all,
)

-- the old values hold exactly if they hold as facts
pub olds_hold : (s : List ℕ) (changes : List Change) → All (OldHolds s) changes → AllHold (λ v. get_or s v 0) (filter_map old_fact (plain_effects changes))
olds_hold s [] all = All-nil (Holds (λ v. get_or s v 0))
olds_hold s (c ∷ changes) all = one_old_holds s c.var c.old (filter_map old_fact (plain_effects changes)) (All-head (OldHolds s) c changes all)
    (olds_hold s changes (All-tail (OldHolds s) c changes all))

pub olds_held : (s : List ℕ) (changes : List Change) → AllHold (λ v. get_or s v 0) (filter_map old_fact (plain_effects changes)) → All (OldHolds s) changes
olds_held s [] all = All-nil (OldHolds s)
olds_held s (c ∷ changes) all =
    let both = one_old_held s c.var c.old (filter_map old_fact (plain_effects changes)) all in
    All-cons (OldHolds s) c changes both.0 (olds_held s changes both.1)

-- an operator's preconditions are its prevail conditions and these old values
pub preconditions_are : (o : Operator) (changes : List Change) → o.effects ≡ plain_effects changes → preconditions o ≡ o.prevail ++ filter_map old_fact (plain_effects changes)
preconditions_are o changes effects = ap (λ (es : List Effect). o.prevail ++ filter_map old_fact es) effects

module _ (s : List ℕ) (o : Operator) (changes : List Change) (effects : o.effects ≡ plain_effects changes) where
  pub met : AllHold (λ v. get_or s v 0) o.prevail → All (OldHolds s) changes → AllHold (λ v. get_or s v 0) (preconditions o)
  met prevail olds = grind (arith, common_steps, get_or, preconditions_are, filter_map, old_fact, plain_effects, olds_hold)

  pub prevail_met : AllHold (λ v. get_or s v 0) (preconditions o) → AllHold (λ v. get_or s v 0) o.prevail
  prevail_met all = search (arith, all_front)

  pub olds_met : AllHold (λ v. get_or s v 0) (preconditions o) → All (OldHolds s) changes
  olds_met all = olds_held s changes (all_behind (Holds (λ v. get_or s v 0)) o.prevail (filter_map old_fact (plain_effects changes))
      (subst (AllHold (λ v. get_or s v 0)) (preconditions_are o changes effects) all))

  pub prevail_within : (n : ℕ) → All (λ (f : Fact). f.var < n) (preconditions o) → All (λ (f : Fact). f.var < n) o.prevail
  prevail_within n all = search (arith, all_front)

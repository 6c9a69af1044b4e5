-- The operators of a task and their effects are well ranged, and their variables exist.
use Rattle.std.proofs.lemmas.Grind.{common_steps}
use Rattle.sas_run.proofs.Imports.{arith, ◌≡◌, ℕ, ◌<◌, List, [], ◌∷◌, length, All-from_recursion, IsState, Option, None, Some, sym, subst, filter_map, option_map, All, AllByRecursion, cons_option, Fact, Variable, FactExists, MayHaveValue, Effect, Parts, Change, change_of, operator_at, effect_at, WellRanged, EffectFits, old_fact, preconditions, fact_within, operator_fits, effect_fits}

-- the old values that effects require exist
old_facts_exist : (variables : List Variable) (effects : List Effect) → AllByRecursion (EffectFits variables) effects
    → AllByRecursion (FactExists variables) (filter_map old_fact effects)
old_facts_exist variables [] fit = tt
old_facts_exist variables (e ∷ es) fit = with_old e.old fit.0.old (old_facts_exist variables es fit.1)
  where
    with_old : (old : Option ℕ) → MayHaveValue variables e.var old → AllByRecursion (FactExists variables) (filter_map old_fact es)
        → AllByRecursion (FactExists variables) (cons_option (option_map (λ (value : ℕ). record { var = e.var; value = value }) old) (filter_map old_fact es))
    with_old None may rest = rest
    with_old (Some value) may rest = (may, rest)

module _ (p : Parts) (ranged : WellRanged p) (operator : ℕ) (exists : operator < length p.operators) where
  -- the variable of an effect exists
  pub effect_within : (effect : ℕ) → effect < length (operator_at p operator).effects → (effect_at (operator_at p operator) effect).var < length p.variables
  effect_within effect lt = fact_within p (effect_at (operator_at p operator) effect).var (effect_at (operator_at p operator) effect).new (effect_fits p ranged operator exists effect lt).new

  -- the same for the effect as a change
  pub change_within : (effect : ℕ) → effect < length (operator_at p operator).effects → (change : Change) → change ≡ change_of (effect_at (operator_at p operator) effect)
      → change.var < length p.variables
  change_within effect lt change is = subst (λ (change : Change). change.var < length p.variables) (sym is) (effect_within effect lt)

  -- and so do those of its conditions
  pub conditions_within : (effect : ℕ) → effect < length (operator_at p operator).effects
      → All (λ (f : Fact). f.var < length p.variables) (effect_at (operator_at p operator) effect).conditions
  conditions_within effect lt = grind (arith, common_steps, length, fact_within, effect_at, operator_at, effect_fits)

  -- the variables of its preconditions exist
  pub preconditions_within : All (λ (f : Fact). f.var < length p.variables) (preconditions (operator_at p operator))
  preconditions_within = grind (arith, common_steps, length, fact_within, preconditions, operator_at, filter_map, old_fact, operator_fits, old_facts_exist)

-- the variables of the goal have values in a state
pub goal_in_state : (p : Parts) (s : List ℕ) → WellRanged p → IsState p.variables s → All (λ (f : Fact). f.var < length s) p.goal
goal_in_state p s ranged state k d lt =
    let fact = All-from_recursion (FactExists p.variables) p.goal ranged.goal.each k d lt in
    omega (arith, state.one_each, fact_within p _ _ fact)

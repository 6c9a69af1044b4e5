-- All facts that a task mentions exist.
use Rattle.sas_mutex.proofs.Imports.{arith, common_steps, ℕ, ◌<◌, [], length, List, ◌∷◌, ◌++◌, Option, All, Contains, cons_option, All-nil, All-append, All-from_recursion, All-contains, All-head, All-tail, Fact, Effect, Parts, operator_at, effect_at, group_at, FactExists, MayHaveValue, WellRanged, EffectFits, holds_at, old_fact, preconditions, known, operator_fits, effect_fits}
use Rattle.std.specs.Prelude.{filter_map}

module _ (p : Parts) (ranged : WellRanged p) where
  -- the facts of a group exist
  pub group_facts : (group : ℕ) → group < length p.groups → All (FactExists p.variables) (group_at p group)
  group_facts group lt = grind (arith, common_steps, All-from_recursion, holds_at)

  module _ (operator : ℕ) (lt : operator < length p.operators) where
    -- the conditions of an effect exist
    pub conditions_exist : (effect : ℕ) → effect < length (operator_at p operator).effects
        → All (FactExists p.variables) (effect_at (operator_at p operator) effect).conditions
    conditions_exist effect below = All-from_recursion (FactExists p.variables) (effect_at (operator_at p operator) effect).conditions (effect_fits p ranged operator lt effect below).conditions.each

    old_exists : (var : ℕ) (old : Option ℕ) (conditions : List Fact) (new : ℕ) (rest : List Fact) → MayHaveValue p.variables var old → All (FactExists p.variables) rest
        → All (FactExists p.variables) (cons_option (old_fact (record { conditions = conditions; var = var; old = old; new = new })) rest)
    old_exists var h1 conditions new rest may all = grind arith

    olds_exist : (effects : List Effect) → All (EffectFits p.variables) effects → All (FactExists p.variables) (filter_map old_fact effects)
    olds_exist [] fit = All-nil (FactExists p.variables)
    olds_exist (e ∷ effects) fit = old_exists e.var e.old e.conditions e.new (filter_map old_fact effects) (All-head (EffectFits p.variables) e effects fit).old
        (olds_exist effects (All-tail (EffectFits p.variables) e effects fit))

    -- what is known where an effect fires exists
    pub known_here_exist : (effect : ℕ) → effect < length (operator_at p operator).effects
        → All (FactExists p.variables) (known (operator_at p operator) (effect_at (operator_at p operator) effect).conditions [])
    known_here_exist effect below =
        let o = operator_at p operator in
        let E = FactExists p.variables in
        All-append E (preconditions o ++ (effect_at o effect).conditions) []
        (All-append E (preconditions o) (effect_at o effect).conditions
        (All-append E o.prevail (filter_map old_fact o.effects)
        (All-from_recursion E o.prevail (operator_fits p ranged operator lt).prevail.each)
        (olds_exist o.effects (All-from_recursion (EffectFits p.variables) o.effects (operator_fits p ranged operator lt).effects.each)))
        (conditions_exist effect below))
        (All-nil E)

    pub known_at_exist : (effect : ℕ) → effect < length (operator_at p operator).effects
        → (f : Fact) → Contains (known (operator_at p operator) (effect_at (operator_at p operator) effect).conditions []) f → FactExists p.variables f
    known_at_exist effect below f among = grind (arith, common_steps, All-contains, known_here_exist)

-- The variables of conditions, preconditions and goal facts have values in a state.
use Rattle.std.proofs.Common.{arith}
use Rattle.std.proofs.lemmas.Grind.{common_steps}
use Rattle.sas_plan_reasons.proofs.Imports.{ℕ, ◌<◌, length, List, [], None, All, All-from_recursion, Fact, Effect, Parts, FactExists, IsState, operator_at, rule_at, WellRanged, holds_at, preconditions, fact_within, preconditions_within}

module _ (p : Parts) (ranged : WellRanged p) (s : List ℕ) (state : IsState p.variables s) where
  -- facts that exist have variables with values
  facts_within : (facts : List Fact) → All (FactExists p.variables) facts → All (λ (f : Fact). f.var < length s) facts
  facts_within facts exist = grind (arith, length, fact_within)

  no_rule : Effect
  no_rule = record { conditions = []; var = 0; old = None; new = 0 }

  pub conditions_within : (rule : ℕ) → rule < length p.rules → All (λ (f : Fact). f.var < length s) (rule_at p rule).conditions
  unfolding no_rule
  conditions_within rule lt = grind (arith, common_steps, holds_at, no_rule, facts_within, All-from_recursion)

  pub goal_within : All (λ (f : Fact). f.var < length s) p.goal
  goal_within = facts_within p.goal (All-from_recursion (FactExists p.variables) p.goal ranged.goal.each)

  pub preconditions_have_values : (operator : ℕ) → operator < length p.operators → All (λ (f : Fact). f.var < length s) (preconditions (operator_at p operator))
  preconditions_have_values operator lt = grind (arith, preconditions, operator_at, preconditions_within)

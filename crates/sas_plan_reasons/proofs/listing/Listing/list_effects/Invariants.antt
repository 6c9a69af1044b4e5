-- The variables of the effects so far are listed.
use Rattle.sas_plan_reasons.proofs.Imports.{◌≡◌, ℕ, ◌<◌, length, All, Contains, operator_at, effect_at, CanList}
use Rattle.sas_plan_reasons.proofs.listing.Listing.list_effects.Given as goal

abbrev pub invariant-loop-effect : goal.invariant-loop-effect
invariant-loop-effect g l = record {
  list : CanList l.fn.task l.self;
  many : length l.self.vars.items ≡ l.effect;
  exist : All (λ (var : ℕ). var < length l.fn.task.variables) l.self.vars.items;
  each : (k : ℕ) → k < l.effect → Contains l.self.vars.items (effect_at (operator_at l.fn.task l.operator) k).var;
}

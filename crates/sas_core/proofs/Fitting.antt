-- The operators of a task, their effects and the rules fit it.
use Rattle.sas_core.proofs.Imports.{ℕ, ◌<◌, [], length, Parts, operator_at, no_effect, effect_at, rule_at, WellRanged, OperatorFits, EffectFits}
use Rattle.sas_core.proofs.Places.{holds_at}

module _ (p : Parts) (ranged : WellRanged p) where
  module _ (operator : ℕ) (exists : operator < length p.operators) where
    pub operator_fits : OperatorFits p.variables (operator_at p operator)
    operator_fits = holds_at (OperatorFits p.variables) (record { name = []; prevail = []; effects = []; cost = 0 }) p.operators ranged.operators.each operator exists

    pub effect_fits : (effect : ℕ) → effect < length (operator_at p operator).effects → EffectFits p.variables (effect_at (operator_at p operator) effect)
    effect_fits = holds_at (EffectFits p.variables) no_effect (operator_at p operator).effects operator_fits.effects.each

  pub rule_fits : (rule : ℕ) → rule < length p.rules → EffectFits p.variables (rule_at p rule)
  rule_fits = holds_at (EffectFits p.variables) no_effect p.rules ranged.rules.each

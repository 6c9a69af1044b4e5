-- No effect sets a fact of the group on another variable, if none of its facts is on one.
use Rattle.sas_mutex.proofs.Imports.{iff_yes, sym, ◌∙◌, sets, effect_at, operator_of}
use Rattle.sas_mutex.proofs.effects.FiringEffect.is_single.Goals as goal

pub returns-then-is_on_own_variable-clause-is : goal.returns-then-is_on_own_variable-clause-is
returns-then-is_on_own_variable-clause-is g c = iff_yes (λ other lt has differ.
    absurd (differ (sym (c.is_on_own_variable.ensures c.if-is_on_own_variable.true (sets (effect_at (operator_of c.args.self.now) other)) has))))

use Rattle.sas_answers.proofs.Imports.{arith, common_steps}
use Rattle.sas_answers.proofs.layers.layers_text.Goals as goal

pub returns-in-EffectOnDerived : goal.returns-in-EffectOnDerived
returns-in-EffectOnDerived c = grind (arith, common_steps)

pub returns-in-RuleOnBasic : goal.returns-in-RuleOnBasic
returns-in-RuleOnBasic c = grind (arith, common_steps)

pub returns-in-TwoValues : goal.returns-in-TwoValues
returns-in-TwoValues c = grind (arith, common_steps)

pub returns-in-LayerOrder : goal.returns-in-LayerOrder
returns-in-LayerOrder c = grind (arith, common_steps)

pub returns-in-OldValue : goal.returns-in-OldValue
returns-in-OldValue c = grind (arith, common_steps)

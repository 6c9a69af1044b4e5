use Rattle.std.proofs.lemmas.Grind.{common_steps}
use Rattle.sas_meaning.proofs.Imports.{arith}
use Rattle.sas_meaning.proofs.preconditions.PreconditionsIterator.next.Goals as goal

pub effect_change-change-requires-clause-effect : goal.effect_change-change-requires-clause-effect
effect_change-change-requires-clause-effect g c = search (arith)

pub loop-self-init : goal.loop-self-init
loop-self-init g c = grind (arith, common_steps)

pub returns-in-Some-old-clause-steps : goal.returns-in-Some-old-clause-steps
returns-in-Some-old-clause-steps g c = grind (arith, common_steps)

pub returns-in-Some-old-clause-goes : goal.returns-in-Some-old-clause-goes
returns-in-Some-old-clause-goes g c = grind (arith, common_steps)

pub loop-self-preserved : goal.loop-self-preserved
loop-self-preserved g c = grind (arith, common_steps)

pub returns-clause-steps : goal.returns-clause-steps
returns-clause-steps g c = grind (arith, common_steps)

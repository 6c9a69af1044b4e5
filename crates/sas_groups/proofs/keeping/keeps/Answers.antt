-- An operator keeps the group if and only if each of its effects does.
use Rattle.sas_groups.proofs.Imports.{below_more, arith, operator_at, Alone}
use Rattle.sas_groups.proofs.Effects.{keeps_from_effects, effect_of_keeps}
use Rattle.sas_groups.proofs.Iff.{iff_yes, iff_no, iff_not}
use Rattle.sas_groups.proofs.keeping.keeps.Goals as goal

pub returns-then-not-keeps_if_sets : goal.returns-then-not-keeps_if_sets
returns-then-not-keeps_if_sets g c = iff_no (λ keeps. iff_not c.keeps_if_sets.ensures c.if-not-keeps_if_sets.true
    (effect_of_keeps (Alone c.args.group.now) (operator_at c.args.task.now c.args.operator) c.args.group.now keeps c.loop-effect.effect (omega arith)))

pub loop-effect-preserved : goal.loop-effect-preserved
loop-effect-preserved g c = below_more _ _ c.loop-effect.invariant (c.keeps_if_sets.ensures.0 c.if-not-keeps_if_sets.false)

pub returns : goal.returns
returns g c = iff_yes (keeps_from_effects (Alone c.args.group.now) (operator_at c.args.task.now c.args.operator) c.args.group.now
    (λ k lt. c.loop-effect.invariant k (omega arith)))

use Rattle.sas_flat.proofs.Imports.{◌+◌, sym, ap, ◌∙◌, arith, change_of, effect_in_list}
use Rattle.sas_flat.proofs.FoundOperators.{as_many, effect_within, effect_found}
use Rattle.sas_flat.proofs.operators.Operators.change.Goals as goal

pub before-requires : goal.before-requires
before-requires c = omega (arith, c.requires.operator, as_many c.self.inside.columns c.args.self.now c.self.view_is)

pub overflow_add-before : goal.overflow_add-before
overflow_add-before c = omega (arith, c.before-2.ensures.effects, c.len-effects.ensures, c.len-effects.type_inv, effect_within c.self.inside.columns c.args.self.now c.self.view_is c.args.operator c.requires.operator c.self.invariant c.args.effect c.requires.effect)

pub change-requires : goal.change-requires
change-requires c = omega (arith, c.before-2.ensures.effects, effect_within c.self.inside.columns c.args.self.now c.self.view_is c.args.operator c.requires.operator c.self.invariant c.args.effect c.requires.effect)

pub returns : goal.returns
returns c =
    c.change.ensures
    ∙ ap change_of (ap (λ n. effect_in_list c.self.inside.columns.effects (n + c.args.effect)) c.before-2.ensures.effects ∙ sym (effect_found c.self.inside.columns c.args.self.now c.self.view_is c.args.operator c.requires.operator c.self.invariant c.args.effect c.requires.effect))

-- The first effect that fails determines the fault.
use Rattle.std.proofs.lemmas.Grind.{elements}
use Rattle.sas_meaning.proofs.Imports.{rules, ◌≡◌, ◌∙◌, ℕ, Bool, true, false, not, Option, Some, None, refl, arith, is_some, result_err, Change, Parts, first_fault, check, operator_at, effect_at, change_of, layer_of, LayerFault, EffectOnDerived, effect_layer_checks}
use Rattle.sas_meaning.proofs.NumberedChecks.{same_check, pass_before_next, fails_at, pass_all}
use Rattle.sas_meaning.proofs.layer_checks.check_operator.Goals as goal

other_way : (a b : Bool) → a ≡ not b → b ≡ not a
other_way true true is = absurd (cc)
other_way true false is = refl
other_way false true is = refl
other_way false false is = absurd (cc)

-- what the tests say of an effect, as its checks
its_checks : (p : Parts) (operator effect : ℕ) (change : Change) (layer : Option ℕ) (passes : Bool) (found : Option LayerFault) → change ≡ change_of (effect_at (operator_at p operator) effect) → layer ≡ layer_of p.variables change.var → is_some layer ≡ not passes → found ≡ first_fault (check passes (EffectOnDerived operator effect)) → found ≡ first_fault (effect_layer_checks p operator effect (effect_at (operator_at p operator) effect))
its_checks p operator effect change layer passes found is its test = search (arith, layer_of, same_check, other_way, not, is_some)

pub loop-effect-preserved : goal.loop-effect-preserved
loop-effect-preserved g c =
    let p = g.T.Grounded.says c.args.task.now in
    pass_before_next (effect_layer_checks p c.args.operator) (operator_at p c.args.operator).effects c.loop-effect.effect _ _ (omega arith) refl c.loop-effect.invariant (its_checks p c.args.operator c.loop-effect.effect _ _ c.is_none.result None c.effect_change-change.ensures c.layer.ensures c.is_none.ensures c.in_ok-check.ensures)

pub returns-in_err-check : goal.returns-in_err-check
returns-in_err-check g c =
    let p = g.T.Grounded.says c.args.task.now in
    let same : result_err c.from_residual.result ≡ Some c.in_err-check.field-0.0 = search rules in
    same ∙ fails_at (effect_layer_checks p c.args.operator) (operator_at p c.args.operator).effects c.loop-effect.effect _ _ (omega arith) refl c.loop-effect.invariant c.in_err-check.field-0.0 (its_checks p c.args.operator c.loop-effect.effect _ _ c.is_none.result (Some c.in_err-check.field-0.0) c.effect_change-change.ensures c.layer.ensures c.is_none.ensures c.in_err-check.ensures)

pub returns : goal.returns
returns g c = search (arith, pass_all, effect_layer_checks, operator_at)

pub layer-requires : goal.layer-requires
layer-requires g c = grind (arith, elements)

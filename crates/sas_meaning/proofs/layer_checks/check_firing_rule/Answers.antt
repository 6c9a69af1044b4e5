-- The checks in order: the old value, the new value of earlier rules of the variable, then the
-- conditions.
use Rattle.std.proofs.lemmas.Grind.{elements}
use Rattle.sas_meaning.proofs.Imports.{rules, ◌≡◌, ◌∙◌, Some, Result, arith, result_err, IfOk}
use Rattle.sas_meaning.proofs.FiringRules.{var_exists, others_fail, conditions_decide, known_then}
use Rattle.sas_meaning.proofs.layer_checks.check_firing_rule.Goals as goal

if_ok : {A E : Type 0} (r : Result A E) (P : Type 0) → P → IfOk r (λ _. P)
if_ok h1 h2 p = search (arith)

pub returns-in_err-check-2-clause-first : goal.returns-in_err-check-2-clause-first
returns-in_err-check-2-clause-first g c =
    let p = g.T.Grounded.says c.args.task.now in
    let same : result_err c.from_residual-in_err-check-2.result ≡ Some c.in_err-check-2.field-0.0 = search rules in
    same ∙ others_fail p c.args.rule c.args.change c.requires.change c.requires.rule _ _ c.initial_value.ensures c.is_none_or_just.ensures _ c.requires.known _ _ c.value_of.ensures c.is_none_or_just-2.ensures c.in_ok-check.ensures _ c.in_err-check-2.ensures

pub set-requires : goal.set-requires
set-requires g c = search (arith, var_exists)

pub returns-clause-first : goal.returns-clause-first
returns-clause-first g c =
    let p = g.T.Grounded.says c.args.task.now in
    conditions_decide p c.args.rule c.args.change c.requires.change c.requires.rule _ _ c.initial_value.ensures c.is_none_or_just.ensures _ c.requires.known _ _ c.value_of.ensures c.is_none_or_just-2.ensures c.in_ok-check.ensures c.in_ok-check-2.ensures _ c.check_conditions.ensures

pub returns-clause-known : goal.returns-clause-known
returns-clause-known g c =
    let p = g.T.Grounded.says c.args.task.now in
    let exists = var_exists p c.args.rule c.args.change c.requires.change c.requires.rule c.requires.well_ranged in
    if_ok c.check_conditions.result _ (known_then p c.args.rule c.args.change c.requires.change c.requires.rule _ _ c.initial_value.ensures c.is_none_or_just.ensures _ c.requires.known _ _ c.value_of.ensures c.is_none_or_just-2.ensures c.in_ok-check.ensures c.in_ok-check-2.ensures c.set.new.self c.requires.can_fire (omega (arith, c.requires.known.one_each)) c.set.ensures)

pub initial_value-requires : goal.initial_value-requires
initial_value-requires g c = grind (arith, elements)

pub value_of-requires : goal.value_of-requires
value_of-requires g c = grind (arith, elements)

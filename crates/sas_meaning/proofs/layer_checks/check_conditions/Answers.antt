-- The first condition that fails determines the fault.
use Rattle.std.proofs.lemmas.Grind.{common_steps, elements}
use Rattle.sas_meaning.proofs.Imports.{rules, ◌≡◌, ◌∙◌, ℕ, Bool, List, length, get_or, Option, Some, None, ap, arith, result_err, Fact, Parts, Check, first_fault, check, rule_at, LayerFault, LayerOrder, looks_down}
use Rattle.sas_meaning.proofs.NumberedChecks.{same_check, pass_before_next, fails_at, pass_all}
use Rattle.sas_meaning.proofs.layer_checks.check_conditions.Goals as goal

-- the checks of a condition of the rule at a place
abbrev checks_of : Parts → ℕ → ℕ → Fact → List (Check LayerFault)
checks_of p rule condition fact = check (looks_down p (rule_at p rule).var fact) (LayerOrder rule condition)

-- what the test says of a condition, as its checks
its_checks : (p : Parts) (rule var condition : ℕ) (fact : Fact) (passes : Bool) (found : Option LayerFault) → var ≡ (rule_at p rule).var → passes ≡ looks_down p var fact → found ≡ first_fault (check passes (LayerOrder rule condition)) → found ≡ first_fault (checks_of p rule condition fact)
its_checks p rule var condition fact passes found same test = search (arith, same_check, looks_down)

same_item : (facts conditions : List Fact) (place : ℕ) (otherwise : Fact) → facts ≡ conditions → get_or facts place otherwise ≡ get_or conditions place otherwise
same_item facts conditions place otherwise same = ap (λ list. get_or list place otherwise) same

pub loop-condition-preserved : goal.loop-condition-preserved
loop-condition-preserved g c =
    let p = g.T.Grounded.says c.args.task.now in
    let conditions = (rule_at p c.args.rule).conditions in
    let same = c.rule_conditions-fact-items.ensures in
    pass_before_next (checks_of p c.args.rule) conditions c.loop-condition.condition _ _ (omega (arith, ap length same)) (same_item _ conditions _ _ same) c.loop-condition.invariant (its_checks p c.args.rule c.args.var c.loop-condition.condition _ c.looks_down.result None c.requires.var c.looks_down.ensures c.in_ok-check.ensures)

pub returns-in_err-check : goal.returns-in_err-check
returns-in_err-check g c =
    let p = g.T.Grounded.says c.args.task.now in
    let conditions = (rule_at p c.args.rule).conditions in
    let same = c.rule_conditions-fact-items.ensures in
    let its : result_err c.from_residual.result ≡ Some c.in_err-check.field-0.0 = search rules in
    its ∙ fails_at (checks_of p c.args.rule) conditions c.loop-condition.condition _ _ (omega (arith, ap length same)) (same_item _ conditions _ _ same) c.loop-condition.invariant c.in_err-check.field-0.0 (its_checks p c.args.rule c.args.var c.loop-condition.condition _ c.looks_down.result (Some c.in_err-check.field-0.0) c.requires.var c.looks_down.ensures c.in_err-check.ensures)

pub returns : goal.returns
returns g c = search (arith, pass_all, rule_at, length)

pub looks_down-requires-clause-var : goal.looks_down-requires-clause-var
looks_down-requires-clause-var g c = grind (arith, elements)

pub looks_down-requires-clause-condition : goal.looks_down-requires-clause-condition
looks_down-requires-clause-condition g c = grind (arith, elements)

pub overflow_cast-condition : goal.overflow_cast-condition
overflow_cast-condition g c = grind (arith, common_steps)

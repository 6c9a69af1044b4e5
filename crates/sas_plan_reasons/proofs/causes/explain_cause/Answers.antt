-- One behind the other.
use Rattle.sas_plan_reasons.proofs.Imports.{sym, ◌∙◌, on_ok_weaker, last_state, AreDerivationLines}
use Rattle.sas_plan_reasons.proofs.Composing.{first_lines, first_plain, plain_is_explanation, more_is_explanation, cause_added, givers_behind, missing_reported, nothing_missing}
use Rattle.sas_plan_reasons.proofs.causes.explain_cause.Goals as goal

pub explain_givers-requires-clause-explanation : goal.explain_givers-requires-clause-explanation
explain_givers-requires-clause-explanation g c =
    let p = c.args.task.now in
    let history = c.args.history.now in
    (history.last, (plain_is_explanation p history c.args.explanation.now _ (first_lines p history c.args.fact) (first_plain p history c.args.fact) c.in_ok-explain_values.ensures c.requires.explanation).2)

pub explain_keepers-requires-clause-explanation : goal.explain_keepers-requires-clause-explanation
explain_keepers-requires-clause-explanation g c =
    let p = c.args.task.now in
    let history = c.args.history.now in
    more_is_explanation p history (λ run. AreDerivationLines p (last_state run) c.args.fact.var) _ _ (givers_behind p history _ _ c.args.fact.var c.in_ok-explain_givers.ensures)
    (plain_is_explanation p history c.args.explanation.now _ (first_lines p history c.args.fact) (first_plain p history c.args.fact) c.in_ok-explain_values.ensures c.requires.explanation)

pub returns-then-requires_rules : goal.returns-then-requires_rules
returns-then-requires_rules g c = on_ok_weaker c.explain_keepers.result
    (λ kept. cause_added c.args.task.now c.args.history.now c.args.explanation.now c.explain_values.new.lines c.explain_givers.new.explanation c.explain_keepers.new.explanation c.args.fact
    c.requires.fact c.in_ok-explain_values.ensures
    (givers_behind _ _ _ _ _ c.in_ok-explain_givers.ensures)
    (missing_reported _ _ _ _ _ (sym c.requires_rules.ensures ∙ c.if-requires_rules.true) kept))
    c.explain_keepers.ensures

pub returns-else-requires_rules : goal.returns-else-requires_rules
returns-else-requires_rules g c = cause_added _ _ _ _ _ _ _ c.requires.fact c.in_ok-explain_values.ensures
    (givers_behind _ _ _ _ _ c.in_ok-explain_givers.ensures)
    (nothing_missing _ _ _ _ (sym c.requires_rules.ensures ∙ c.if-requires_rules.false))

-- No rule derives the value, or all of the variable's rules were reported before, or they are reported now.
use Rattle.sas_plan_reasons.proofs.Imports.{arith, ◌≡◌, ◌<◌, ℕ, Bool, List, ◌++◌, length, get_or, false, sym, ◌∙◌, ap, subst, flat_map, All, on_ok_weaker, Contains-get_or, of_variable, places, can_give, failing_lines, keeping_lines, last_state, AddsLines}
use Rattle.sas_plan_reasons.proofs.Composing.{no_rule, reported_before, reported_now}
use Rattle.sas_plan_reasons.proofs.causes.explain_keepers.Goals as goal

pub returns-then-not-give_value : goal.returns-then-not-give_value
returns-then-not-give_value g c = on_ok_weaker c.push.result
    (no_rule c.args.task.now c.args.history.now c.args.explanation.now c.push.new.self c.args.fact (sym c.give_value.ensures ∙ c.if-not-give_value.true))
    c.push.ensures.ok

pub returns-then-as_slice-var : goal.returns-then-as_slice-var
returns-then-as_slice-var g c = search (arith, reported_before, false, get_or)

pub push_keepers-requires-clause-rules : goal.push_keepers-requires-clause-rules
push_keepers-requires-clause-rules g c =
    let p = c.args.task.now in
    let are : c.get-rules.result.now ≡ places (can_give p c.args.fact.var) p.rules =
    c.get-rules.ensures ∙ c.requires.explanation.2.rules.each c.args.fact.var c.requires.fact in
    subst (All (λ (rule : ℕ). rule < length p.rules)) (sym are)
    (λ k d lt. (of_variable p c.args.fact.var (get_or (places (can_give p c.args.fact.var) p.rules) k d) (Contains-get_or (places (can_give p c.args.fact.var) p.rules) k d lt)).0)

pub returns : goal.returns
returns g c =
    let p = c.args.task.now in
    let explanation = c.args.explanation.now in
    let are : c.get-rules.result.now ≡ places (can_give p c.args.fact.var) p.rules =
    c.get-rules.ensures ∙ c.requires.explanation.2.rules.each c.args.fact.var c.requires.fact in
    on_ok_weaker c.push_keepers.result
    (λ add. subst (λ (kept : List Bool). AddsLines p c.args.history.now explanation
    (record { lines = c.push_keepers.new.lines; origins = explanation.origins; rules = explanation.rules; kept = kept; next = explanation.next })
    (λ run lines. lines ≡ keeping_lines p (last_state run) c.args.fact)) (sym c.set.ensures)
    (reported_now p c.args.history.now explanation c.push_keepers.new.lines c.args.fact c.requires.fact
    (sym c.give_value.ensures ∙ c.if-not-give_value.false)
    (ap (λ (l : List Bool). get_or l c.args.fact.var false) (sym c.as_slice.ensures) ∙ c.if-as_slice-var.false)
    (subst (λ (rules : List ℕ). c.push_keepers.new.lines ≡ explanation.lines ++ flat_map (failing_lines p c.args.history.now.last) rules) are add)))
    c.push_keepers.ensures

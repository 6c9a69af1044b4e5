-- Each turn adds the entry of a rule that can fire, or passes one that can't.
use Rattle.sas_axioms.proofs.Imports.{◌≡◌, ◌<◌, length, sym, ap, subst, ◌∙◌, arith, Parts, Change, rule_at, by_key, default_of, fact_within, rule_new}
use Rattle.sas_axioms.proofs.RuleChanges.{change_within}
use Rattle.sas_axioms.proofs.RulesOf.{RulesTo, rules_none, rules_skip, rules_more, rules_index}
use Rattle.sas_axioms.proofs.layer_rules.rules_of_variables.Goals as goal
use Rattle.sas_axioms.proofs.layer_rules.rules_of_variables.Goals.{then-change-initial_value+in_ok-push, else-change-initial_value}

pub loop-rule-init : goal.loop-rule-init
loop-rule-init g c = subst (RulesTo c.args.layered.now 0) (sym c.new-entries.ensures.items) (rules_none c.args.layered.now)

pub loop-rule-preserved : goal.loop-rule-preserved
loop-rule-preserved g c =
    let p = c.args.layered.now in
    let k = c.loop-rule.rule in
    let entries = c.loop-rule.entries.items in
    let lt : k < length p.rules = omega (arith, (rw c.task-task.ensures.task at c.rules-rule-end.ensures), c.loop-rule-test.true) in
    let var = ap (λ (x : Change). x.var) (rw c.task-task.ensures.task at c.rule_change-change.ensures) in
    let new = ap (λ (x : Change). x.new) (rw c.task-task.ensures.task at c.rule_change-change.ensures) in
    let default : c.initial_value.result ≡ default_of p (rule_at p k).var = (rw c.task-task.ensures.task at c.initial_value.ensures) ∙ ap (default_of p) var in
    elim c.if-change-initial_value.branch [
      | then-change-initial_value+in_ok-push w ↦
          (let pushed = w.in_ok-push.ensures.items in
          rw (w.entries-is, pushed, var) (rules_more p k entries lt (fact_within p (rule_at p k).var (rule_at p k).new (rule_new p c.task-task.ensures.well_ranged k _ lt))
          (λ same. w.if-change-initial_value.true (new ∙ (same ∙ sym default))) c.loop-rule.invariant))
      | else-change-initial_value w ↦
          rw w.entries-is (rules_skip p k entries lt (sym new ∙ (w.if-change-initial_value.false ∙ default)) c.loop-rule.invariant)
    ]

pub returns : goal.returns
returns g c = search (arith, by_key, rules_index)

pub initial_value-requires : goal.initial_value-requires
initial_value-requires g c =
    let task = c.task-task.ensures.task in
    change_within c.args.layered.now c.task-task.ensures.well_ranged c.loop-rule.rule (omega (arith, (rw task at c.rules-rule-end.ensures), c.loop-rule-test.true)) c.rule_change-change.result (rw task at c.rule_change-change.ensures) _ (ap (λ (p : Parts). length p.variables) task)

-- One more rule is counted, and it is ready or can't be added.
use Rattle.sas_plan_reasons.proofs.Imports.{◌≡◌, ◌≢◌, ◌<◌, ℕ, length, [], refl, sym, ◌∙◌, ap, subst, arith, Parts, Change, change_of, rule_at, default_of, CanFire, open_with}
use Rattle.sas_plan_reasons.proofs.Building.{open_more, open_ready}
use Rattle.sas_plan_reasons.proofs.order.OpenConditions.new.Goals as goal
use Rattle.sas_plan_reasons.proofs.order.OpenConditions.new.Goals.{then-count-eq0+then-change-initial_value+in_ok-push-2, else-count-eq0, else-count-eq0-via-then-count-eq0+else-change-initial_value, else-count-eq0-via-else-count-eq0}

-- what was read shows whether the rule can fire
module _ (p task : Parts) (rule : ℕ) (change : Change) (default : ℕ) (same : task ≡ p) (is : change ≡ change_of (rule_at task rule)) (is_default : default ≡ default_of task change.var) where
  fires : change.new ≢ default → CanFire p (rule_at p rule)
  fires other = subst (λ t. CanFire t (rule_at t rule)) same
      (λ e. other (ap (λ (c : Change). c.new) is ∙ (e ∙ (sym (ap (λ (c : Change). default_of task c.var) is) ∙ sym is_default))))

  never_fires : change.new ≡ default → CanFire p (rule_at p rule) → ⊥
  never_fires e = subst (λ t. CanFire t (rule_at t rule) → ⊥) same
      (λ can. can (sym (ap (λ (c : Change). c.new) is) ∙ (e ∙ (is_default ∙ ap (λ (c : Change). default_of task c.var) is))))

pub loop-rule-preserved : goal.loop-rule-preserved
loop-rule-preserved g c =
    let p = c.args.layered.now in
    let s = c.args.state.now in
    let n = c.loop-rule.rule in
    let task = c.task-task.ensures.task in
    let within : n < length p.rules = omega (arith, (rw task at c.rules-rule-end.ensures), c.loop-rule-test.true) in
    let count = c.open_at_first-count.ensures ∙ ap (open_with p s []) (rw task at c.rule_conditions.ensures) in
    elim c.if-count-eq0.branch [
      | then-count-eq0+then-change-initial_value+in_ok-push-2 w ↦ rw w.open-is (open_ready p s n c.loop-rule.open _ c.open_at_first-count.result within c.loop-rule.invariant
          c.in_ok-push.ensures.items count w.in_ok-push-2.ensures.permutation w.in_ok-push-2.ensures.heap_order w.if-count-eq0.true
          (fires p _ n c.rule_change-change.result w.initial_value.result task c.rule_change-change.ensures w.initial_value.ensures w.if-change-initial_value.true))
      | else-count-eq0 w ↦ rw w.open-is (open_more p s n c.loop-rule.open _ c.open_at_first-count.result within c.loop-rule.invariant c.in_ok-push.ensures.items count refl
          (λ none can. elim w.else-count-eq0.branch [
            | else-count-eq0-via-then-count-eq0+else-change-initial_value v ↦ never_fires p _ n c.rule_change-change.result v.initial_value.result task c.rule_change-change.ensures v.initial_value.ensures v.if-change-initial_value.false can
            | else-count-eq0-via-else-count-eq0 v ↦ v.if-count-eq0.false none
          ]))
    ]

use Rattle.sas_axioms.proofs.RuleChanges.{value_within}
use Rattle.sas_axioms.proofs.Imports.{◌≡◌, ◌<◌, length, get_or, set, sym, ◌∙◌, ap, Change, subst, inl, inr, arith, cases_eq, get_or_default, rule_at, HasFired, Fired, fired_there, no_effect}
use Rattle.sas_axioms.proofs.rounds.go_round.Goals as goal
use Rattle.sas_axioms.proofs.rounds.go_round.Goals.{then-changes, else-changes}

pub loop-rule-preserved : goal.loop-rule-preserved
loop-rule-preserved g c =
    let p = c.args.layered.now in
    let layer = c.args.layer in
    let s = c.loop-rule.state in
    let k = c.loop-rule.rule in
    let inv = c.loop-rule.invariant in
    let within : k < length p.rules = omega (arith, (rw c.task-task.ensures.task at c.rules-rule-end.ensures), c.loop-rule-test.true) in
    elim c.if-changes.branch [
      | then-changes w ↦
          (let f : Fired p layer s (rule_at p k) = fired_there p layer s k no_effect c.task-task.ensures.well_ranged c.task-task.ensures.layered inv.state inv.forced within (c.changes.ensures.yes w.if-changes.true) in
          let is : c.if-changes.state ≡ set s (rule_at p k).var (rule_at p k).new = w.state-is ∙ (w.set.ensures ∙ ap (λ (x : Change). set s x.var x.new) (rw c.task-task.ensures.task at w.rule_change-change.ensures)) in
          let fewer = f.fewer in
          let was = inv.fewer in
          rw is record {
            state = f.state;
            forced = f.forced;
            off = λ v off. inv.off v off ∙ f.off v off;
            fewer = omega arith;
            more = λ _. omega arith;
            done = λ no. let yes = w.changed-is in absurd cc;
          })
      | else-changes w ↦ rw (w.state-is, w.changed-is) record {
        state = inv.state;
        forced = inv.forced;
        off = inv.off;
        fewer = inv.fewer;
        more = inv.more;
        done = λ no j d lt. elim (cases_eq j k) [
          | inl e ↦ subst (λ i. HasFired p layer s (get_or p.rules i d)) (sym e)
              (subst (λ r. HasFired p layer s r) (get_or_default p.rules k no_effect d within) (c.changes.ensures.no w.if-changes.false))
          | inr ne ↦ inv.done no j d (omega arith)
        ];
      }
    ]

pub set-requires : goal.set-requires
set-requires g c =
    let within : c.loop-rule.rule < length c.args.layered.now.rules =
    omega (arith, (rw c.task-task.ensures.task at c.rules-rule-end.ensures), c.loop-rule-test.true) in
    value_within _ c.task-task.ensures.well_ranged c.loop-rule.rule within _ c.task-task.ensures.task
    _ c.rule_change-change.ensures _ c.loop-rule.invariant.state.one_each

-- Each iteration appends a rule, or skips one that can't fire or is late.
use Rattle.sas_axioms.proofs.Imports.{rules, ◌≡◌, ◌∷◌, [], ◌++◌, length, subst, arith, IsNonDecreasingBy-from_sort_by_key, LayerRule}
use Rattle.sas_axioms.proofs.OneLayer.{FirstUpTo, one_layer, first_more, first_skip, first_all}
use Rattle.sas_axioms.proofs.layer_rules.first_rules.Goals as goal
use Rattle.sas_axioms.proofs.layer_rules.first_rules.Goals.{in-Some+then-not-is_late+in_ok-push, in-Some+else-not-is_late, in_default}

pub loop-rule-preserved : goal.loop-rule-preserved
loop-rule-preserved g c =
    let p = c.args.layered.now in
    let rules = c.loop-rule.rules.items in
    elim c.match-firing_layer.branch [
      | in-Some+then-not-is_late+in_ok-push w ↦
          (let pushed : w.push.new.self.items ≡ rules ++ record { layer = w.in-Some.layer; rule = c.loop-rule.rule } ∷ [] = w.in_ok-push.ensures.items in
          rw (w.rules-is, pushed) (first_more p c.loop-rule.rule w.in-Some.layer rules w.in-Some.ensures.some c.loop-rule.invariant))
      | in-Some+else-not-is_late w ↦ rw w.rules-is (first_skip p c.loop-rule.rule rules
          (λ layer is. rw (one_layer p layer w.in-Some.layer c.loop-rule.rule is w.in-Some.ensures.some) (w.is_late.ensures w.if-not-is_late.false)) c.loop-rule.invariant)
      | in_default w ↦ rw w.rules-is (first_skip p c.loop-rule.rule rules (λ layer is. absurd (w.in_default.ensures.none layer is)) c.loop-rule.invariant)
    ]

pub returns : goal.returns
returns g c =
    let p = c.args.layered.now in
    let before = c.loop-rule.rules.items in
    let after = c.sort_by_key.new.self.items in
    let all : c.loop-rule.rule ≡ length p.rules = omega arith in
    first_all p before after (subst (λ k. FirstUpTo p k before) all c.loop-rule.invariant) c.sort_by_key.ensures.permutation
    (IsNonDecreasingBy-from_sort_by_key (λ (r : LayerRule). r.layer) after c.in_ok-sort_by_key.ensures.sorted (λ a r q k. search rules))

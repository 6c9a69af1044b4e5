-- The first operator with the words in the same order is the similar one, or else the first with them in some order.
use Rattle.sas_plan_reasons.proofs.Imports.{◌≡◌, ◌+◌, ◌<◌, length, Some, sym, ap, subst, inl, arith, operator_at, words, IsLikeness, Same}
use Rattle.sas_plan_reasons.proofs.SimilarNames.{IsPermutedBelow, similar_is, alike_permuted, sought_itself, its_likeness, noted_more, passed_more, none_more, noted_similar}
use Rattle.sas_plan_reasons.proofs.similar.similar.Goals as goal
use Rattle.sas_plan_reasons.proofs.similar.similar.Goals.{in-Permuted, in-Other}

pub likeness-requires : goal.likeness-requires
likeness-requires g c = sought_itself _ _ c.in_ok-sought.ensures

pub returns-in-Same : goal.returns-in-Same
returns-in-Same g c =
    let p = g.T.Grounded.says c.args.task.now in
    let name = c.args.name.now in
    let operator = c.loop-operator.operator in
    let lt : operator < length p.operators = omega (arith, c.operators-operator-end.ensures, c.loop-operator-test.true) in
    let is = its_likeness p name operator _ _ Same c.in_ok-sought.ensures.same (ap words c.name.ensures) (subst (IsLikeness _ _) c.in-Same.is c.in_ok-likeness.ensures) in
    similar_is p name (Some operator) (inl (record { has = record { exists = lt; alike = is }; first = c.loop-operator.invariant.none }))

pub loop-operator-preserved : goal.loop-operator-preserved
loop-operator-preserved g c =
    let p = g.T.Grounded.says c.args.task.now in
    let name = c.args.name.now in
    let operator = c.loop-operator.operator in
    let lt : operator < length p.operators = omega (arith, c.operators-operator-end.ensures, c.loop-operator-test.true) in
    let its = its_likeness p name operator _ _ c.in_ok-likeness.field-0 c.in_ok-sought.ensures.same (ap words c.name.ensures) c.in_ok-likeness.ensures in
    elim c.match-branch-4.branch [
      | in-Permuted w ↦
          (let is = subst (IsLikeness (words name) (words (operator_at p operator).name)) w.in-Permuted.is its in
          rw w.permuted-is record {
            none = none_more p name operator c.loop-operator.invariant.none (λ alike. is.1 alike.alike);
            permuted = subst (IsPermutedBelow p name (operator + 1)) (sym w.or-permuted.ensures) (noted_more p name operator c.loop-operator.permuted c.loop-operator.invariant.permuted (record { exists = lt; permuted = is.0 }));
          })
      | in-Other w ↦
          (let is = subst (IsLikeness (words name) (words (operator_at p operator).name)) w.in-Other.is its in
          rw w.permuted-is record {
            none = none_more p name operator c.loop-operator.invariant.none (λ alike. is (alike_permuted p name operator alike).permuted);
            permuted = passed_more p name operator c.loop-operator.permuted c.loop-operator.invariant.permuted (λ permuted. is permuted.permuted);
          })
    ]

pub returns : goal.returns
returns g c =
    let p = g.T.Grounded.says c.args.task.now in
    let all = c.operators-operator-end.ensures in
    let end = c.loop-operator-test.false in
    let inv = c.loop-operator.invariant in
    noted_similar p c.args.name.now c.loop-operator.permuted (λ lower lt. inv.none lower (omega (arith, lt, all, end)))
    (subst (λ n. IsPermutedBelow p c.args.name.now n c.loop-operator.permuted) (let e : c.loop-operator.operator ≡ length p.operators = omega (arith, all, end, c.loop-operator.auto.operator-end) in e) inv.permuted)

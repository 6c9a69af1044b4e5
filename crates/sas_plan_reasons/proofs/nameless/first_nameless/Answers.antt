-- The first of the steps so far that name no operator are noted.
use Rattle.sas_plan_reasons.proofs.Imports.{◌≡◌, ℕ, true, false, List, Option, not, is_some, sym, ap, ◌∙◌, arith, take, places_all, get_or}
use Rattle.sas_plan_reasons.proofs.NamelessLines.{is_none_at, nameless_places, noted_one_more, noted_no_more, noted_enough}
use Rattle.sas_plan_reasons.proofs.nameless.first_nameless.Goals as goal
use Rattle.sas_plan_reasons.proofs.nameless.first_nameless.Goals.{then-len-lt-MOST+then-is_none+in_ok-push, else-len-lt-MOST, else-len-lt-MOST-via-then-len-lt-MOST+else-is_none, else-len-lt-MOST-via-else-len-lt-MOST}

pub loop-step-preserved : goal.loop-step-preserved
loop-step-preserved g c =
    let p = g.T.Grounded.says c.args.task.now in
    let firsts = c.args.firsts.now in
    let first = c.loop-step.first.items in
    let k = c.loop-step.step in
    let lt = c.loop-step-test.true in
    elim c.if-len-lt-MOST.branch [
      | then-len-lt-MOST+then-is_none+in_ok-push w ↦
          (let none : is_none_at p (get_or firsts k 0) ≡ true = ap (λ (o : Option ℕ). not (is_some o)) (sym w.existing.ensures) ∙ (ap not w.is_none.ensures ∙ ap (λ b. not (not b)) w.if-is_none.true) in
          rw w.first-is (w.in_ok-push.ensures.items ∙ noted_one_more p firsts first k lt c.loop-step.invariant (omega (arith, w.if-len-lt-MOST.true, c.len.ensures)) none))
      | else-len-lt-MOST w ↦ elim w.else-len-lt-MOST.branch [
        | else-len-lt-MOST-via-then-len-lt-MOST+else-is_none w' ↦
            (let some : is_none_at p (get_or firsts k 0) ≡ false = ap (λ (o : Option ℕ). not (is_some o)) (sym w'.existing.ensures) ∙ (ap not w'.is_none.ensures ∙ ap (λ b. not (not b)) w'.if-is_none.false) in
            rw w.first-is (noted_no_more p firsts first k lt c.loop-step.invariant some))
        | else-len-lt-MOST-via-else-len-lt-MOST w' ↦ rw w.first-is (noted_enough p firsts first k lt c.loop-step.invariant (omega (arith, w'.if-len-lt-MOST.false, c.len.ensures)))
      ]
    ]

pub returns : goal.returns
returns g c steps are =
    let p = g.T.Grounded.says c.args.task.now in
    c.loop-step.invariant ∙ ap (λ (l : List ℕ). take 5 l) (places_all (is_none_at p) c.loop-step.step c.args.firsts.now (omega (arith, c.loop-step-test.false)) ∙ nameless_places p steps c.args.firsts.now are)

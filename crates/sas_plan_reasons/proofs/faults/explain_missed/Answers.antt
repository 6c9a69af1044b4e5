-- How many goal facts fail, and then each goal fact in turn.
use Rattle.sas_plan_reasons.proofs.Imports.{arith, ◌≡◌, ◌<◌, ◌≤◌, List, [], ◌∷◌, length, get_or, refl, sym, ◌∙◌, ap, subst, slice_index, count_by, Fact, Parts, places, places_to, places_all, Line, LineThen, LinesOfEach, fails, IsCause, AreGoalFactLines, GoalFact, FailingGoalFacts}
use Rattle.sas_plan_reasons.proofs.Within.{goal_within}
use Rattle.sas_plan_reasons.proofs.Composing.{more_is_explanation, plain_is_explanation, line_and_more, one_more}
use Rattle.sas_plan_reasons.proofs.Faulty.{at_last, fails_when, holds_when, place_more, place_not}
use Rattle.sas_plan_reasons.proofs.faults.explain_missed.Goals as goal
use Rattle.sas_plan_reasons.proofs.faults.explain_missed.Goals.{then-value-fact+in_ok-push-2+in_ok-explain_cause, else-value-fact}

pub count_failing-requires : goal.count_failing-requires
count_failing-requires g c = search (arith, length, goal_within)

pub value-requires : goal.value-requires
value-requires g c = search (arith, length, goal_within)

pub explain_cause-requires-clause-fact : goal.explain_cause-requires-clause-fact
explain_cause-requires-clause-fact g c = search (arith, goal_within, length)

pub explain_cause-requires-clause-explanation : goal.explain_cause-requires-clause-explanation
explain_cause-requires-clause-explanation g c =
    let p = c.args.layered.now in
    let s = c.args.history.now.last in
    plain_is_explanation p c.args.history.now c.loop-index.explanation c.push-then-value-fact.new.self (GoalFact c.loop-index.index ∷ []) (refl, tt) c.in_ok-push-2.ensures.ok
    (more_is_explanation p c.args.history.now (λ run. LinesOfEach (AreGoalFactLines p run) (places_to (fails s) c.loop-index.index p.goal)) _ c.loop-index.explanation
    c.loop-index.invariant (plain_is_explanation p c.args.history.now c.args.explanation.now c.push.new.self (_ ∷ []) (refl, tt) c.in_ok-push.ensures.ok c.requires))

pub loop-index-preserved : goal.loop-index-preserved
loop-index-preserved g c =
    let p = c.args.layered.now in
    let s = c.args.history.now.last in
    let k = c.loop-index.index in
    let goal_is = c.goal-goal.ensures ∙ ap (λ (q : Parts). q.goal) c.task.ensures.task in
    let lt : k < length p.goal = subst (λ (l : List Fact). k < length l) goal_is c.loop-index-test.true in
    elim c.if-value-fact.branch [
      | then-value-fact+in_ok-push-2+in_ok-explain_cause w ↦ rw (
        w.explanation-is,
        place_more (fails s) k p.goal _ lt (fails_when s _ (subst (λ (l : List Fact). slice_index s (get_or l k (record { var = 0; value = 0 })).var ≡ (get_or l k (record { var = 0; value = 0 })).value → ⊥) goal_is
            (λ e. w.if-value-fact.true (c.value.ensures ∙ e)))),
      )
          (one_more p c.args.history.now (λ run. AreGoalFactLines p run) _ _ _ _ k c.loop-index.invariant
          (line_and_more _ _ _ _ w.push-then-value-fact.new.self (GoalFact k) (λ run. IsCause p run (get_or p.goal k (record { var = 0; value = 0 }))) refl w.in_ok-push-2.ensures.ok
          (rw goal_is at w.in_ok-explain_cause.ensures)))
      | else-value-fact w ↦ rw (
        w.explanation-is,
        place_not (fails s) k p.goal _ lt (holds_when s _ (subst (λ (l : List Fact). slice_index s (get_or l k (record { var = 0; value = 0 })).var ≡ (get_or l k (record { var = 0; value = 0 })).value) goal_is
            (sym c.value.ensures ∙ w.if-value-fact.false))),
      ) c.loop-index.invariant
    ]

pub returns : goal.returns
returns g c =
    let p = c.args.layered.now in
    let s = c.args.history.now.last in
    let goal_is = c.goal-goal.ensures ∙ ap (λ (q : Parts). q.goal) c.task.ensures.task in
    let all : length p.goal ≤ c.loop-index.index = subst (λ (l : List Fact). length l ≤ c.loop-index.index) goal_is c.loop-index-test.false in
    let first : Line = FailingGoalFacts (count_by (fails s) p.goal) (length p.goal) in
    at_last p c.args.history.now (λ r t. LineThen (FailingGoalFacts (count_by (fails t) p.goal) (length p.goal)) (LinesOfEach (AreGoalFactLines p r) (places (fails t) p.goal))) _ _
    (line_and_more _ _ _ _ c.push.new.self first (λ run. LinesOfEach (AreGoalFactLines p run) (places (fails s) p.goal)) refl (rw (c.count_failing.ensures, goal_is) at c.in_ok-push.ensures.ok)
    (rw (places_all (fails s) c.loop-index.index p.goal all) at c.loop-index.invariant))

-- All of these steps were reported.
use Rattle.std.proofs.Common.{◌++◌}
use Rattle.sas_plan_reasons.proofs.Imports.{◌≡◌, ℕ, Bool, List, [], ◌∷◌, if◌then◌else◌, take, flat_map, sym, ap, subst, ◌∙◌, arith, append-nil, length, get_or, Contains, Contains-get_or, take_all, Line, nameless_step_lines, some_similar}
use Rattle.sas_answers.specs.declared.line.Line.TheVariants.{NamelessSteps, OtherTaskHint}
use Rattle.sas_plan_reasons.proofs.NamelessLines.{nameless_within, all_reported}
use Rattle.sas_plan_reasons.proofs.nameless.unknown.Goals as goal
use Rattle.sas_plan_reasons.proofs.nameless.unknown.Goals.{then-is_of_other_task+in_ok-push-2, else-is_of_other_task}

pub push_step-requires-clause-exists : goal.push_step-requires-clause-exists
push_step-requires-clause-exists g c =
    let p = c.args.task.now in
    let steps = (g.P.Stepwise.says c.args.plan.now).steps in
    let same = c.deref-before-items.ensures.value ∙ c.requires.first in
    nameless_within p steps _ (subst (λ (l : List ℕ). Contains l (get_or c.deref-before-items.result.now c.loop-before.before-index 0)) same
    (Contains-get_or c.deref-before-items.result.now c.loop-before.before-index 0 c.loop-before-test.true))

pub returns : goal.returns
returns g c =
    let p = c.args.task.now in
    let plan = g.P.Stepwise.says c.args.plan.now in
    let items = c.args.nameless.now.first.items in
    let many = ap (λ (l : List ℕ). length l) c.deref-before-items.ensures.value in
    let whole : take c.loop-before.before-index items ≡ items = take_all c.loop-before.before-index items (omega (arith, c.loop-before-test.false, many)) in
    let front : c.loop-before.lines ≡ flat_map (nameless_step_lines p plan) items = c.loop-before.invariant.lines ∙ ap (λ (l : List ℕ). flat_map (nameless_step_lines p plan) l) whole in
    let base : List Line = flat_map (nameless_step_lines p plan) items ++ NamelessSteps c.args.nameless.now.count c.steps-steps.result ∷ [] in
    let pushed = c.in_ok-push.ensures.ok ∙ ap (λ (l : List Line). l ++ NamelessSteps c.args.nameless.now.count c.steps-steps.result ∷ []) front in
    let hinted : Bool → List Line = λ h. base ++ (if h then OtherTaskHint ∷ [] else []) in
    all_reported p plan c.args.nameless.now c.loop-before.similar c.is_of_other_task.result c.steps-steps.result c.if-is_of_other_task.lines c.requires c.steps-steps.ensures
    (c.loop-before.invariant.similar ∙ ap (λ (l : List ℕ). some_similar p plan l) whole) c.is_of_other_task.ensures
    (elim c.if-is_of_other_task.branch [
      | then-is_of_other_task+in_ok-push-2 w ↦ w.lines-is ∙ (w.in_ok-push-2.ensures.ok ∙ (ap (λ (l : List Line). l ++ OtherTaskHint ∷ []) pushed ∙ ap hinted (sym w.if-is_of_other_task.true)))
      | else-is_of_other_task w ↦ w.lines-is ∙ (pushed ∙ (sym (append-nil base) ∙ ap hinted (sym w.if-is_of_other_task.false)))
    ])

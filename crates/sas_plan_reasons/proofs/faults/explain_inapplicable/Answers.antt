-- The operator, and then each precondition in turn.
use Rattle.std.proofs.lemmas.Grind.{common_steps}
use Rattle.std.proofs.Common.{arith}
use Rattle.sas_plan_reasons.proofs.Imports.{◌≡◌, ◌<◌, List, [], ◌∷◌, ◌++◌, length, refl, sym, ◌∙◌, ap, subst, append_assoc, filter, All, append-nil, All-head, All-rest, Fact, operator_at, preconditions, LinesOfEach, last_state, fails, IsCause}
use Rattle.sas_answers.specs.declared.line.Line.TheVariants.{Operator}
use Rattle.sas_plan_reasons.proofs.Within.{preconditions_have_values}
use Rattle.sas_plan_reasons.proofs.Composing.{more_is_explanation, plain_is_explanation, line_and_more, none_yet, one_more}
use Rattle.sas_plan_reasons.proofs.Faulty.{one_more_fails, one_more_holds, at_last}
use Rattle.sas_plan_reasons.proofs.faults.explain_inapplicable.Goals as goal

pub loop-fact-init : goal.loop-fact-init
loop-fact-init g c = grind (arith, common_steps, preconditions_have_values, none_yet)

pub value-requires : goal.value-requires
value-requires g c =
    let Within : Fact → Type 0 = λ f. f.var < length c.args.history.now.last in
    All-head Within c.in-Some.fact _ (subst (All Within) c.in-Some.ensures.steps c.loop-fact.invariant.within)

pub explain_cause-requires-clause-fact : goal.explain_cause-requires-clause-fact
explain_cause-requires-clause-fact g c =
    let Within : Fact → Type 0 = λ f. f.var < length c.args.history.now.last in
    subst (λ n. c.in-Some.fact.var < n) (let state = c.requires.explanation.1.state in state.one_each)
    (All-head Within c.in-Some.fact _ (subst (All Within) c.in-Some.ensures.steps c.loop-fact.invariant.within))

pub explain_cause-requires-clause-explanation : goal.explain_cause-requires-clause-explanation
explain_cause-requires-clause-explanation g c =
    let p = c.args.layered.now in
    let s = c.args.history.now.last in
    more_is_explanation p c.args.history.now (λ run. LinesOfEach (IsCause p run) (filter (fails s) c.loop-fact.yielded)) _ c.loop-fact.explanation c.loop-fact.invariant.reported
    (plain_is_explanation p c.args.history.now c.args.explanation.now c.push.new.self (Operator c.args.operator ∷ []) (refl, tt) c.in_ok-push.ensures.ok c.requires.explanation)

pub loop-fact-preserved-in-Continue-branch-2 : goal.loop-fact-preserved-in-Continue-branch-2
loop-fact-preserved-in-Continue-branch-2 g c =
    let before = c.loop-fact.yielded in
    let fact = c.in-Some.fact in
    let steps = c.in-Some.ensures.steps in
    let s = c.args.history.now.last in
    record {
      left = c.loop-fact.invariant.left ∙ (ap (λ (fs : List Fact). before ++ fs) steps ∙ sym (append_assoc before (fact ∷ []) c.next.new.self));
      within = All-rest (λ (f : Fact). f.var < length s) fact c.next.new.self c.loop-fact.fact-iterator steps c.loop-fact.invariant.within;
      reported = rw (one_more_fails s before fact (λ e. c.if-value-fact.true (c.value.ensures ∙ e)))
          (one_more _ _ (λ run. IsCause c.args.layered.now run) _ _ _ _ fact c.loop-fact.invariant.reported c.in_ok-explain_cause.ensures);
    }

pub loop-fact-preserved : goal.loop-fact-preserved
loop-fact-preserved g c =
    let before = c.loop-fact.yielded in
    let fact = c.in-Some.fact in
    let steps = c.in-Some.ensures.steps in
    let s = c.args.history.now.last in
    record {
      left = c.loop-fact.invariant.left ∙ (ap (λ (fs : List Fact). before ++ fs) steps ∙ sym (append_assoc before (fact ∷ []) c.next.new.self));
      within = All-rest (λ (f : Fact). f.var < length s) fact c.next.new.self c.loop-fact.fact-iterator steps c.loop-fact.invariant.within;
      reported = rw (one_more_holds s before fact (sym c.value.ensures ∙ c.if-value-fact.false)) c.loop-fact.invariant.reported;
    }

pub returns : goal.returns
returns g c =
    let p = c.args.layered.now in
    let o = operator_at p c.args.operator in
    let all : c.loop-fact.yielded ≡ preconditions o =
    sym (c.loop-fact.invariant.left ∙ (ap (λ (fs : List Fact). c.loop-fact.yielded ++ fs) c.in-None.ensures.steps.0 ∙ append-nil c.loop-fact.yielded)) in
    line_and_more _ _ _ _ c.push.new.self (Operator c.args.operator)
    (λ run. LinesOfEach (IsCause p run) (filter (fails (last_state run)) (preconditions o))) refl c.in_ok-push.ensures.ok
    (at_last _ _ (λ run t. LinesOfEach (IsCause p run) (filter (fails t) (preconditions o))) _ _ (rw all at c.loop-fact.invariant.reported))

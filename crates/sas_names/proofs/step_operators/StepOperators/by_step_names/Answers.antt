-- One more step has the operator of its name.
use Rattle.std.specs.Vec.{with_item}
use Rattle.sas_names.proofs.Imports.{◌≡◌, ◌<◌, [], length, get_or, slice_set, ap, refl, ◌∙◌, arith, get_or_read, StepOperators}
use Rattle.sas_names.proofs.FoundSteps.{still_chains, one_more_first, are_step_operators}
use Rattle.sas_names.proofs.step_operators.StepOperators.by_step_names.Goals as goal

pub loop-step-preserved : goal.loop-step-preserved
loop-step-preserved g c =
    let p = g.T.Grounded.says c.args.task.now in
    let steps = (g.P.Stepwise.says c.args.plan.now).steps in
    let names = c.in_ok-names.names in
    let named = c.in_ok-names.ensures in
    let found = c.loop-step.found in
    let step = c.loop-step.step in
    let inv = c.loop-step.invariant in
    let number = get_or names.of_steps.items step 0 in
    let first = c.index-in-loop-step.result.now in
    let lt : step < length steps = omega (arith, c.loop-step-test.true, c.steps-step-end.ensures) in
    let numbered : step < length names.of_steps.items = omega (arith, named.one_each) in
    let below : number < length steps = named.numbers.below (get_or steps step []) number (named.each step numbered) in
    let is_number : c.index.result.now ≡ number = get_or_read names.of_steps.items step c.index.result.now numbered c.index.ensures 0 in
    let read : first ≡ get_or found.firsts.items number 0 =
    get_or_read found.firsts.items c.index.result.now first (omega (arith, is_number, below, inv.are.one_each)) c.index-in-loop-step.ensures 0
    ∙ ap (λ k. get_or found.firsts.items k 0) is_number in
    let new : StepOperators = record { firsts = with_item found.firsts step first; nexts = found.nexts } in
    let puts : new.firsts.items ≡ slice_set found.firsts.items step (get_or found.firsts.items number 0) = ap (slice_set found.firsts.items step) read in
    record {
      are = still_chains p steps names named found new inv.are step lt refl puts;
      lowest = one_more_first p steps names named found new inv.are step lt refl puts inv.lowest;
    }

pub returns : goal.returns
returns g c =
    let inv = c.loop-step.invariant in
    are_step_operators (g.T.Grounded.says c.args.task.now) (g.P.Stepwise.says c.args.plan.now).steps c.in_ok-names.names c.in_ok-names.ensures c.loop-step.found inv.are
    (λ k lt. inv.lowest k (omega (arith, lt, c.loop-step-test.false, c.steps-step-end.ensures)))

-- The steps before the fault are those of a run, and are made once more.
use Rattle.sas_plan_reasons.proofs.Imports.{ℕ, ◌<◌, List, length, get_or, sym, ap, subst, ◌∙◌, arith, GoesThrough, leads_on_numbers, goes_one_way, leads_to_last, last_state, run_from, IsChain}
use Rattle.sas_plan_reasons.proofs.Behind.{made_exists}
use Rattle.sas_plan_reasons.proofs.StepChains.{operator_named, operator_chain}
use Rattle.sas_plan_reasons.proofs.writing.retrace.Goals as goal

pub replay-requires-clause-through : goal.replay-requires-clause-through
replay-requires-clause-through g c =
    let p = c.args.named.now.task.now in
    let (run, of, ends, are) = c.requires.ends in (
      last_state run,
      subst (λ os. GoesThrough p os (last_state run)) (are ∙ sym c.as_slice.ensures.value) (leads_on_numbers p run.steps run.operators (last_state run) (leads_to_last p run of.through)),
    )

pub replay-requires-clause-none : goal.replay-requires-clause-none
replay-requires-clause-none g c = c.in_ok-noted.ensures.none c.args.named.now.task.now.init c.in_ok-last.ensures.initial

pub replay-requires-clause-each : goal.replay-requires-clause-each
replay-requires-clause-each g c k lt =
    let named = c.args.named.now in
    let p = named.task.now in
    let (run, of, ends, are) = c.requires.ends in
    let same = are ∙ sym c.as_slice.ensures.value in
    let within : k < length run.operators = omega (arith, lt, ap length same) in
    let names = c.requires.named.names in
    let layered = c.requires.prepared.layered in
    let on = operator_named p named.plan.now named.firsts.now named.nexts.now names layered run of k within in
    subst (λ (os : List ℕ). (get_or os k 0 < length p.operators) × IsChain p (get_or os k 0) c.in_ok-noted.noted.nexts.now) same
    (on.exists, rw c.in_ok-noted.ensures.nexts (operator_chain p named.plan.now named.firsts.now named.nexts.now names layered run of k within))

pub follow-requires-clause-exists : goal.follow-requires-clause-exists
follow-requires-clause-exists g c =
    let named = c.args.named.now in
    let (run, of, ends, are) = c.requires.ends in
    made_exists named.task.now named.plan.now c.args.fault ends.0

pub returns-clause-retraced : goal.returns-clause-retraced
returns-clause-retraced g c =
    let named = c.args.named.now in
    let p = named.task.now in
    let (run, of, ends, are) = c.requires.ends in
    let through = of.through in
    let same = are ∙ sym c.as_slice.ensures.value in
    let seen = c.replay.ensures.sees in
    let numbers = leads_on_numbers p run.steps run.operators (last_state run) (leads_to_last p run through) in
    let last = goes_one_way p c.requires.prepared.layered c.as_slice.result.now c.replay.new.state (last_state run) c.replay.ensures.through (subst (λ os. GoesThrough p os (last_state run)) same numbers) in (
      run,
      record {
        through = through;
        ends = ends;
        nameless = c.in_ok-nameless.ensures named.plan.now.steps c.requires.named.names.firsts;
        operators = sym are;
        last = last;
        since = rw c.into_parts-since.ensures.since (seen.since run (run_from p run through) same);
        other = rw c.into_parts-since.ensures.other (seen.other run (run_from p run through) same);
        anyway = c.in_ok-anyway.ensures.noted run last;
      },
    )

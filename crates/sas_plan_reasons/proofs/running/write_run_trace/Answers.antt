-- The trace is that of a run as far as the operators go through.
use Rattle.sas_plan_reasons.proofs.Imports.{text, run_lines, List, ℕ, refl, sym, ap, subst, ◌∙◌, ◌++◌, append-nil, IsSomeAnd, GoesThroughFrom, start_of, writes_as, output_of}
use Rattle.sas_plan_reasons.specs.RunTraces.{TraceFrom}
use Rattle.sas_plan_reasons.proofs.RunEndings.{number_ending}
use Rattle.sas_plan_reasons.proofs.running.write_run_trace.Goals as goal

pub write_replay-ended-requires-clause-through : goal.write_replay-ended-requires-clause-through
write_replay-ended-requires-clause-through g c =
    let p = c.args.task.now in
    let start : List ℕ = start_of p c.args.plan.now.start.now in
    let ends = c.in_ok-end.ensures.ends in
    (ends.s, subst (λ os. GoesThroughFrom p start os ends.s) (sym c.as_slice.ensures.value) ends.makes.through)

pub returns-clause-writes : goal.returns-clause-writes
returns-clause-writes g c =
    let p = c.args.task.now in
    let plan = c.args.plan.now in
    let start : List ℕ = start_of p plan.start.now in
    let (run, through, same, ends) = number_ending p start plan.operators.now plan.cost c.in_ok-end.end.operators.items c.in_ok-end.end.fault c.in_ok-end.ensures.ends in
    let verdict = output_of c.in_ok-verdict.verdict in
    writes_as g.W.Write.contents _ _ c.write_replay-ended.result _ (λ output. IsSomeAnd output (TraceFrom p start plan.operators.now plan.cost))
    (record {
      run = run;
      through = through;
      fault = c.in_ok-end.end.fault;
      ends = ends;
      answer = verdict;
      answers = c.in_ok-verdict.ensures p start run ends;
      whole = ap (λ (bytes : List ℕ). text (run_lines p run) ++ bytes) (append-nil verdict.text);
      status = refl;
    })
    (c.write_replay-ended.ensures.writes run through (same ∙ sym c.as_slice.ensures.value))

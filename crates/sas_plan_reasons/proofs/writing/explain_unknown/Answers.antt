-- The lines of the unknown step are all reasons.
use Rattle.sas_plan_reasons.proofs.Imports.{refl, sym, subst, inr, IsWhy, NoOperator, output_of, fault_words, invalid_line, worded}
use Rattle.sas_plan_reasons.proofs.Behind.{unknown_why}
use Rattle.sas_plan_reasons.proofs.writing.explain_unknown.Goals as goal

pub unknown-requires : goal.unknown-requires
unknown-requires c = c.in_ok-nameless.ensures c.args.named.now.plan.now.steps c.requires.named.names.firsts

pub returns : goal.returns
returns c =
    let p = c.args.named.now.task.now in
    let plan = c.args.named.now.plan.now in
    let step = c.args.step in
    let comes = c.requires.run in
    let verdict = output_of c.in_ok-verdict.verdict in
    let reported = c.in_ok-verdict.ensures in
    inr (
      NoOperator step,
      comes.1.ends.0,
      record {
        verdict = verdict;
        reported = reported;
        reasons = c.into_vec.result.items;
        why = subst (IsWhy p plan (NoOperator step)) (sym c.into_vec.ensures) (unknown_why p plan step comes.0 c.in_ok-lines.lines comes.1 c.in_ok-lines.ensures);
        whole = refl;
      },
      (worded (fault_words plan.cost (NoOperator step)) invalid_line verdict reported).status,
    )

use Rattle.sas_plan_reasons.proofs.Imports.{refl, inr, output_of, fault_words, invalid_line, worded}
use Rattle.sas_plan_reasons.proofs.writing.explain_fault.Goals as goal

pub returns : goal.returns
returns c =
    let fault = c.args.history.now.fault in
    let verdict = output_of c.in_ok-verdict.verdict in
    let reported = rw c.cost.ensures at c.in_ok-verdict.ensures in
    inr (
      fault,
      c.requires.1.ends.0,
      record { verdict = verdict; reported = reported; reasons = c.in_ok-lines.lines.items; why = c.in_ok-lines.ensures; whole = refl },
      (worded (fault_words c.args.named.now.plan.now.cost fault) invalid_line verdict reported).status,
    )

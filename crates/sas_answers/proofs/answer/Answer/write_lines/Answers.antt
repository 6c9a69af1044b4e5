use Rattle.sas_answers.proofs.Imports.{inl, refl, ◌∙◌, err_from_is_err_and}
use Rattle.sas_answers.proofs.answer.Answer.write_lines.Goals as goal

pub returns-clause-writes : goal.returns-clause-writes
returns-clause-writes g c = record {
  ends = (_, refl, refl, rw c.as_slice.ensures.value at c.in_ok-write_lines.ensures.ok);
  nothing = tt;
  writes = (λ e. absurd e, λ t. let apart = c.in_ok-write_lines.ensures.note.1 t in absurd cc);
}

pub returns-in_err-write_lines-clause-writes : goal.returns-in_err-write_lines-clause-writes
returns-in_err-write_lines-clause-writes g c =
    let short = rw c.as_slice.ensures.value at c.in_err-write_lines.ensures.short in
    let fault = err_from_is_err_and c.from_residual.result c.from_residual.ensures.1 in
    rw (fault.1, fault.2) (record { ends = (_, refl, short.0, short.1); nothing = inl tt; writes = (λ _. c.in_err-write_lines.ensures.note.0 refl, λ _. tt) })

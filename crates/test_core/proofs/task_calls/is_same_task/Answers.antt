-- Tasks are equal if their parts are.
use Rattle.std.proofs.Common.{sym, ◌∙◌}
use Rattle.sas_core.proofs.SameParts.{parts}
use Rattle.test_core.proofs.task_calls.is_same_task.Goals as goal

pub returns : goal.returns
returns c =
    let d = parts c.args.task.now c.args.other.now in
    (λ t. d.0 (sym c.eq.ensures ∙ t), λ e. c.eq.ensures ∙ d.1 e)

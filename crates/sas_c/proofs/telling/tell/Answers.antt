use Rattle.sas_c.proofs.Returned.{reports_copied, reports_longer}
use Rattle.sas_c.proofs.telling.tell.Goals as goal

pub returns-then-copy-clause-answers : goal.returns-then-copy-clause-answers
returns-then-copy-clause-answers c = let copied = c.if-copy.true in reports_copied c.args.text.now c.args.status _ _ _ c.copy.ensures.size _ c.status_number.ensures (c.copy.ensures.copied copied) (c.copy.ensures.behind copied) c.copy.ensures.same

pub returns-else-copy-clause-answers : goal.returns-else-copy-clause-answers
returns-else-copy-clause-answers c = let longer = c.if-copy.false in reports_longer c.args.text.now c.args.status _ _ _ c.copy.ensures.size (c.copy.ensures.longer longer) (c.copy.ensures.spared longer)

use Rattle.sas_requests.proofs.Imports.{refl, Plan}
use Rattle.sas_requests.proofs.RequestEnds.{unlayered_by, of_task, of_both}
use Rattle.sas_requests.proofs.plans.answer_plan_files.Goals as goal

pub returns-in-Layered : goal.returns-in-Layered
returns-in-Layered g c =
    rw (rw c.in-Layered.is at c.read_layered.ensures.silent) at (of_both g.T.Read.remaining g.P.Read.remaining g.W.Write.contents _ _ c.args.detail c.in-Layered.layered _ _ (rw c.in-Layered.is at c.read_layered.ensures.read) (rw c.in-Layered.is at c.read_layered.ensures.layered) _ _ c.answer_plan_file-ended.result c.answer_plan_file-ended.ensures)

pub returns-in-Ended : goal.returns-in-Ended
returns-in-Ended g c =
    of_task g.T.Read.remaining g.P.Read.remaining g.W.Write.contents _ _ c.args.detail Plan refl _ (unlayered_by c.args.detail) _ _ _ c.in-Ended.ended c.requires.plan (rw c.in-Ended.is at c.read_layered.ensures.refused)

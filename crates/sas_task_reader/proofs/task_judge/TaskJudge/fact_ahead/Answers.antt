use Rattle.sas_task_reader.proofs.Imports.{refl, ap, IsTrue, fact, fact_in_ranges}
use Rattle.sas_task_file.specs.declared.marks.Due.TheVariants as due
use Rattle.sas_task_reader.proofs.TaskMoves.{moves_ahead}
use Rattle.sas_task_reader.proofs.task_judge.TaskJudge.fact_ahead.Goals as goal

pub returns-clause-some : goal.returns-clause-some
returns-clause-some g c =
    let f = c.in_ok-fact.fact in
    let exists : IsTrue (fact_in_ranges c.args.self.now.tracker.ranges f) = let looked = c.value_in.ensures in let there = c.if-not-value_in.false in cc in
    moves_ahead c.args.self.now _ c.args.bytes.now c.in_ok-fact.rest.now due.Fact c.args.event (fact f) c.requires (λ e. cc) c.in_ok-fact.ensures refl refl exists (ap (λ n. record c.args.self.now.tracker { more = n }) c.saturating_sub-self.ensures) refl

use Rattle.sas_task_reader.proofs.Imports.{refl, ap, IsTrue, Effect, effect, plain_effect, change_in_ranges}
use Rattle.sas_task_file.specs.declared.marks.Due.TheVariants as due
use Rattle.sas_task_file.specs.declared.places.Event.TheVariants as adds
use Rattle.sas_task_reader.proofs.TaskMoves.{moves_ahead}
use Rattle.sas_task_reader.proofs.task_judge.TaskJudge.effect_ahead.Goals as goal

pub returns-clause-some : goal.returns-clause-some
returns-clause-some g c =
    let change = c.in_ok-change.change in
    let exists : IsTrue (change_in_ranges c.args.self.now.tracker.ranges change.var change.old change.new) = let looked = c.change_in.ensures in let there = c.if-not-change_in.false in cc in
    moves_ahead c.args.self.now _ c.args.bytes.now c.in_ok-change.rest.now due.Effect adds.Effect (effect (plain_effect change)) c.requires (λ e. cc) c.in_ok-change.ensures (ap (λ (e : Effect). effect e) c.say_effect.ensures) refl exists (ap (λ n. record c.args.self.now.tracker { more = n }) c.saturating_sub-self.ensures) refl

use Rattle.sas_task_reader.proofs.Imports.{refl, ap, arith, number, value_due}
use Rattle.sas_task_file.specs.declared.places.Event.TheVariants as adds
use Rattle.sas_task_reader.proofs.TaskMoves.{moves_ahead}
use Rattle.sas_task_file.proofs.TaskSections.{is_between}
use Rattle.sas_task_reader.proofs.task_judge.TaskJudge.state_value_ahead.Goals as goal

pub returns-clause-some : goal.returns-clause-some
returns-clause-some g c =
    moves_ahead c.args.self.now _ c.args.bytes.now c.in_ok-value.rest.now (value_due c.args.self.now.tracker) adds.State (number c.in_ok-value.value) c.requires (λ e. cc) c.in_ok-value.ensures refl refl (is_between 0 _ c.in_ok-value.value (omega arith) (omega (arith, c.most_value.ensures, c.if-value-most_value.false))) (ap (λ n. record c.args.self.now.tracker { more = n }) c.saturating_sub-self.ensures) refl

use Rattle.sas_task_reader.proofs.Imports.{refl, ap, name}
use Rattle.sas_task_file.specs.declared.marks.Due.TheVariants as due
use Rattle.sas_task_file.specs.declared.marks.What.TheVariants as what
use Rattle.sas_task_file.specs.declared.places.Event.TheVariants as adds
use Rattle.sas_task_reader.proofs.TaskMoves.{moves_ahead}
use Rattle.sas_task_reader.proofs.task_judge.TaskJudge.name_ahead.Goals as goal

pub returns-clause-some : goal.returns-clause-some
returns-clause-some g c =
    let found = c.in_ok-_name.ensures in
    moves_ahead c.args.self.now _ c.args.bytes.now c.in_ok-_name.rest.now (due.Name what.Value) adds.Value (name c.in_ok-_name._name.now) c.requires (λ e. cc) found.1 refl refl found.0 (ap (λ n. record c.args.self.now.tracker { more = n }) c.saturating_sub-self.ensures) refl

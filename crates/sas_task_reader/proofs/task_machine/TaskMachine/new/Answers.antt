use Rattle.sas_task_reader.proofs.Imports.{refl, sym, ap, [], Tracker, TaskState, nothing_yet, Counts, count_at}
use Rattle.sas_task_reader.proofs.task_machine.TaskMachine.new.Goals as goal

pub returns : goal.returns
returns g c =
    let so_far = nothing_yet c.requires.0 in
    record {
      led = record {
        so_far = so_far;
        leads = record { items = []; after = ap (λ (t : Tracker). let x : TaskState = record { tracker = t; so_far = so_far } in x) (sym c.new.ensures.tracker); spells = refl };
        kept = c.requires.1;
        counts = record { section = ap (λ (d : Counts). d.section) c.new.ensures.counts; here = ap (count_at _ _) c.new.ensures.counts };
      };
    }

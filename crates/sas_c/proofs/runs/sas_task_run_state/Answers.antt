-- The state is that of the task that was held.
use Rattle.sas_c.proofs.Imports.{rules, Option, subst, IfSome, Parts, ReturnsState}
use Rattle.sas_plan_reasons.specs.StateBehind.{IsStateBehind}
use Rattle.sas_c.proofs.runs.sas_task_run_state.Goals as goal

pub returns-in-Some : goal.returns-in-Some
returns-in-Some c =
    let run = c.args.run.now in
    let written = c.write_state-number in
    record {
      state = record {
        of_task = subst (λ (held : Option Parts). IfSome held (λ p. ReturnsState (IsStateBehind p run.start.now run.operators.now) c.args.room.now written.new.room written.new.size written.result)) c.in-Some.ensures.task
            (subst (λ (p : Parts). ReturnsState (IsStateBehind p run.start.now run.operators.now) c.args.room.now written.new.room written.new.size written.result) c.deref_mut.ensures.value written.ensures.state);
        same = search rules;
        none = search rules;
      };
    }

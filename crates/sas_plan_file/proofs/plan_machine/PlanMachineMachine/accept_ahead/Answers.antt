use Rattle.sas_plan_file.proofs.Imports.{refl, plan_behavior, none_accepted, accepted}
use Rattle.sas_plan_file.proofs.PlanAhead.{next_step, step_ahead_taken}
use Rattle.sas_plan_file.proofs.PlanSteps.{step_led, still_going}
use Rattle.sas_plan_file.proofs.plan_machine.PlanMachineMachine.accept_ahead.Goals as goal

pub loop-name-init : goal.loop-name-init
loop-name-init g c = record { accepted = none_accepted plan_behavior.led_by c.args.self.now c.args.bytes.now; going_on = c.requires }

pub loop-name-preserved : goal.loop-name-preserved
loop-name-preserved g c =
    let l = c.loop-name in
    let name = c.in-Some.name.now in
    let on = c.in_ok-add_step.ensures.ok in
    record {
      accepted = next_step l.rest.now name c.in-Some.behind.now c.in-Some.ensures plan_behavior.led_by c.args.self.now c.args.bytes.now l.self l.lines l.invariant.accepted c.add_step.new.self
          (λ before h. step_led before l.self c.add_step.new.self name _ h (step_ahead_taken _ _ _ c.in-Some.ensures) refl on);
      going_on = still_going l.self c.add_step.new.self name on;
    }

pub returns : goal.returns
returns g c = let l = c.loop-name in accepted plan_behavior.led_by c.args.self.now c.args.bytes.now l.self l.lines l.rest.now l.invariant.accepted

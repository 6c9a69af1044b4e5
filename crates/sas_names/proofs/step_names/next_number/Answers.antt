-- A new name has the number of its step.
use Rattle.sas_names.proofs.Imports.{◌≡◌, length, None, rules, value_of, step_names}
use Rattle.sas_names.proofs.StepNumbers.{Numbers-new}
use Rattle.sas_names.proofs.step_names.next_number.Goals as goal

pub returns : goal.returns
returns g c =
    let steps = (g.P.Stepwise.says c.args.plan.now).steps in
    let step = length c.args.of_steps.now in
    let new : value_of (step_names steps) c.args.numbers.now (step_names steps step) ≡ None = search rules in
    Numbers-new steps c.args.numbers.now c.put.new.self step (search rules) c.requires.numbers new c.in_ok-put.ensures.puts c.in_ok-put.ensures.exist

-- Standard input was named so far at most once, and `named` says whether it was.
use Rattle.std.proofs.Common.{◌≡◌, take}
use Rattle.std.specs.Prelude.{if◌then◌else◌}
use Rattle.sas_tool.specs.Labels.{times_named}
use Rattle.sas_tool.proofs.plan_files.name_input_twice.Given as goal

abbrev pub invariant-loop-label : goal.invariant-loop-label
invariant-loop-label l = times_named l.by_task (take l.label-index l.labels) ≡ (if l.named then 1 else 0)

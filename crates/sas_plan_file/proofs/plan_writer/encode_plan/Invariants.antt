use Rattle.sas_plan_file.proofs.Imports.{◌≡◌, map, take, text, plan_line_bytes, step}
use Rattle.sas_plan_file.proofs.plan_writer.encode_plan.Given as goal

-- the lines of the steps so far
abbrev pub invariant-loop-name : goal.invariant-loop-name
invariant-loop-name l = l.out.items ≡ text (map plan_line_bytes (map step (take l.name-index l.name-items)))

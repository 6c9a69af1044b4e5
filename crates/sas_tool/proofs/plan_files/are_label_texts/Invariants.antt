-- The labels so far have no line end.
use Rattle.std.proofs.Common.{ℕ, ◌<◌, get_or, String, Global}
use Rattle.std.specs.String.{string_bytes}
use Rattle.sas_requests.specs.Inputs.{IsLabel}
use Rattle.sas_tool.proofs.plan_files.are_label_texts.Given as goal

abbrev pub invariant-loop-label : goal.invariant-loop-label
invariant-loop-label l = (k : ℕ) (d : String Global) → k < l.label-index → IsLabel (string_bytes (get_or l.labels k d))

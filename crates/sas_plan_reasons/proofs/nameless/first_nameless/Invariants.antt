-- These are the first of the steps so far.
use Rattle.sas_plan_reasons.proofs.Imports.{◌≡◌, take, places_to}
use Rattle.sas_plan_reasons.proofs.NamelessLines.{is_none_at}
use Rattle.sas_plan_reasons.proofs.nameless.first_nameless.Given as goal

abbrev pub invariant-loop-step : goal.invariant-loop-step
invariant-loop-step g l = l.first.items ≡ take 5 (places_to (is_none_at (g.T.Grounded.says l.task)) l.step l.firsts)

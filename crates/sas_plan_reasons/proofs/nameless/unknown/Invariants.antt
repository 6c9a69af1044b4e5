-- The steps so far were reported.
use Rattle.sas_plan_reasons.proofs.Imports.{◌≡◌, flat_map, take, nameless_step_lines, some_similar}
use Rattle.sas_plan_reasons.proofs.nameless.unknown.Given as goal

abbrev pub invariant-loop-before : goal.invariant-loop-before
invariant-loop-before g l = record {
  lines : l.lines ≡ flat_map (nameless_step_lines l.task (g.P.Stepwise.says l.plan)) (take l.before-index l.nameless.first.items);
  similar : l.similar ≡ some_similar l.task (g.P.Stepwise.says l.plan) (take l.before-index l.nameless.first.items);
}

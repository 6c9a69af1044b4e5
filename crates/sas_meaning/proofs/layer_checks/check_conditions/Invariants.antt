-- All conditions so far pass.
use Rattle.sas_meaning.proofs.Imports.{check, rule_at, LayerOrder, looks_down}
use Rattle.sas_meaning.proofs.NumberedChecks.{PassBefore}
use Rattle.sas_meaning.proofs.layer_checks.check_conditions.Given as goal

abbrev pub invariant-loop-condition : goal.invariant-loop-condition
invariant-loop-condition g l =
    PassBefore (λ condition c. check (looks_down (g.T.Grounded.says l.task) (rule_at (g.T.Grounded.says l.task) l.rule).var c) (LayerOrder l.rule condition)) (rule_at (g.T.Grounded.says l.task) l.rule).conditions l.condition

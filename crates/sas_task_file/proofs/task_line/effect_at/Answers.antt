use Rattle.sas_task_file.proofs.TaskJudging.{refused_effect_shape, refused_effect_value, or_wants}
use Rattle.sas_task_file.proofs.task_line.effect_at.Goals as goal

pub returns-then-not-found : goal.returns-then-not-found
returns-then-not-found c = or_wants (refused_effect_shape _ c.args.line.now (c.in_ok-found.ensures.none c.if-not-found.true))

pub returns-then-not-effect_in_ranges : goal.returns-then-not-effect_in_ranges
returns-then-not-effect_in_ranges c = or_wants (refused_effect_value _ c.args.line.now c.parse_effect.new.effect (c.in_ok-found.ensures.found c.if-not-found.false) (λ t. let exists = c.effect_in_ranges.ensures in let missing = c.if-not-effect_in_ranges.true in cc))

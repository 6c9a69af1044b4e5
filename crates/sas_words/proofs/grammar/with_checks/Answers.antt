use Rattle.std.proofs.Common.{codes}
use Rattle.sas_words.specs.Grammar.{IsCommand, explained, over_plan, over_plans, over_task, top_app, with_request}
use Rattle.clap.specs.Words.{App}
use Rattle.sas_words.proofs.grammar.with_checks.Goals as goal

abbrev plan_app : App
plan_app = with_request top_app (over_plan (over_task (explained (codes "plan"))))

abbrev plans_app : App
plans_app = with_request plan_app (over_plans (over_task (explained (codes "plans"))))

pub returns : goal.returns
returns c =
    let plan : IsCommand plan_app c.in_ok-plan.plan = c.in_ok-plan.ensures top_app _ c.program.ensures c.plan_request.ensures in
    let plans : IsCommand plans_app c.in_ok-plans.plans = c.in_ok-plans.ensures plan_app _ plan c.plans_request.ensures in
    c.add-3.ensures plans_app _ plans c.plan_request-2.ensures

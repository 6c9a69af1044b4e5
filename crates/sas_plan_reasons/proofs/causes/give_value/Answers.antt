-- All rules derive the value that the first derives.
use Rattle.std.proofs.lemmas.Grind.{common_steps}
use Rattle.std.proofs.Common.{arith}
use Rattle.sas_plan_reasons.proofs.Imports.{sym, subst, Contains, of_variable}
use Rattle.sas_plan_reasons.proofs.RulesOf.{none_gives, one_gives, first_is, first_is_none}
use Rattle.sas_plan_reasons.proofs.causes.give_value.Goals as goal

pub rule_change-requires : goal.rule_change-requires
rule_change-requires g c =
    let p = c.args.layered.now in
    rw c.task.ensures.task (of_variable p c.args.fact.var c.in-Some.rule.now (subst (λ l. Contains l c.in-Some.rule.now) c.requires
    (first_is c.args.rules.now c.in-Some.rule.now (sym c.in-Some.ensures.value)))).0

pub returns-in-Some : goal.returns-in-Some
returns-in-Some g c = grind (arith, common_steps, one_gives, first_is)

pub returns-in-None : goal.returns-in-None
returns-in-None g c = search (arith, none_gives, first_is_none)

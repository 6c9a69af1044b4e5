-- No rule was added.
use Rattle.std.proofs.Common.{rules}
use Rattle.sas_plan_reasons.proofs.Imports.{◌≡◌, ℕ, Option, None, Parts, length, replicate, ap, ◌∙◌}
use Rattle.sas_plan_reasons.proofs.Building.{none_added}
use Rattle.sas_plan_reasons.proofs.order.OrderSoFar.new.Goals as goal

pub returns : goal.returns
returns g c =
    let none : Option ℕ = None in
    let made : c.in_ok-vec.field-0.items ≡ replicate c.variables.result none = search (rules, replicate) in
    none_added c.args.layered.now c.args.state.now _ c.task-task.ensures.layered c.requires.settled c.new.ensures.items
    (made ∙ (ap (λ n. replicate n none) c.variables.ensures.count ∙ ap (λ (t : Parts). replicate (length t.variables) none) c.task-task.ensures.task)) c.in_ok-index_of_all.ensures c.in_ok-new.ensures

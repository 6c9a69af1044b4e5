-- The rule becomes ready, or it has other open conditions.
use Rattle.sas_plan_reasons.proofs.Imports.{◌≡◌, ◌+◌, ◌-◌, get_or, refl, ◌∙◌, arith, get_or_default}
use Rattle.sas_plan_reasons.proofs.OpenConditions.{closed_last, closed_one}
use Rattle.sas_plan_reasons.proofs.order.OpenConditions.meet.Goals as goal

pub returns-in_ok-push : goal.returns-in_ok-push
returns-in_ok-push c =
    let before = c.args.self.now.counts.items in
    let is : get_or before c.args.rule 0 ≡ c.index.result.now - 1 + 1 = (let e = c.index.ensures ∙ get_or_default before c.args.rule c.index.result.now 0 c.requires.exists in let some = c.requires.some in omega arith) in
    closed_last c.args.self.now _ c.args.rule (c.index.result.now - 1) c.requires.exists is refl c.if-count-eq0.true c.in_ok-push.ensures.permutation c.in_ok-push.ensures.heap_order

pub returns-else-count-eq0 : goal.returns-else-count-eq0
returns-else-count-eq0 c =
    let before = c.args.self.now.counts.items in
    let is : get_or before c.args.rule 0 ≡ c.index.result.now - 1 + 1 = (let e = c.index.ensures ∙ get_or_default before c.args.rule c.index.result.now 0 c.requires.exists in let some = c.requires.some in omega arith) in
    closed_one c.args.self.now _ c.args.rule (c.index.result.now - 1) c.requires.exists is refl c.if-count-eq0.false refl

use Rattle.sas_task_reasons.proofs.Imports.{◌≡◌, ◌==◌, true, ap, sym, ◌∙◌, arith, ◌&&◌, not, [], None, Change, Effect, rule_at, can_fire}
use Rattle.sas_task_reasons.proofs.OtherGivers.{gives_other}
use Rattle.sas_task_reasons.proofs.Positions.{position_at, position_none}
use Rattle.sas_task_reasons.proofs.giver.other_giver.Goals as goal

abbrev none : Effect
none = record { conditions = []; var = 0; old = None; new = 0 }

pub returns-then-gives_other : goal.returns-then-gives_other
returns-then-gives_other c =
    let p = c.args.task.now in
    let rule = rule_at p c.args.rule in
    let other = rule_at p c.loop-other.other in
    let same : gives_other p rule other ≡ true =
    sym (ap (λ (x : Change). (other.var == x.var) && (can_fire p other && not (other.new == x.new))) c.change_by-change.ensures)
    ∙ sym c.gives_other.ensures ∙ c.if-gives_other.true in
    position_at (gives_other p rule) p.rules none c.loop-other.other (omega (arith, c.loop-other-test.true)) c.loop-other.invariant same

pub returns : goal.returns
returns c =
    let p = c.args.task.now in
    position_none (gives_other p (rule_at p c.args.rule)) p.rules none (λ k below. c.loop-other.invariant k (omega (arith, below, c.loop-other-test.false)))

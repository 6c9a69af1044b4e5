-- One more fact is processed.
use Rattle.sas_groups.proofs.Imports.{◌≡◌, ◌∙◌, ap, subst, Contains, Fact, arith, common_steps, known_on, known_left}
use Rattle.sas_groups.proofs.Iff.{iff_yes, iff_no}
use Rattle.sas_groups.proofs.Turns.{turn_has, turns_begin, turn_more, turns_end}
use Rattle.sas_groups.proofs.removal.is_known.Goals as goal

pub returns-then-eq : goal.returns-then-eq
returns-then-eq g c =
    let same : c.in-Some.g ≡ c.args.fact = grind (arith, common_steps) in
    iff_yes (subst (Contains (known_on c.args.task.now c.args.premises.now)) same (turn_has c.loop-g.invariant c.in-Some.ensures.steps))

pub loop-g-preserved : goal.loop-g-preserved
loop-g-preserved g c =
    let differ : c.in-Some.g ≡ c.args.fact → ⊥ = grind (arith, common_steps) in
    turn_more c.loop-g.invariant c.in-Some.ensures.steps differ

pub returns : goal.returns
returns g c = grind (arith, common_steps, iff_no, known_on, turns_end)

pub loop-g-init : goal.loop-g-init
loop-g-init g c = turns_begin (λ (x : Fact). x ≡ c.args.fact → ⊥) (ap known_left c.into_iter-g-iterator.ensures.into_iter_gives ∙ c.new-g-items.ensures)

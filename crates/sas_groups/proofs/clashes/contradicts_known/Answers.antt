-- One more fact is processed.
use Rattle.sas_groups.proofs.Iff.{iff_yes, iff_no, iff_not}
use Rattle.sas_groups.proofs.Turns.{turn_has, turn_more, turns_end}
use Rattle.sas_groups.proofs.clashes.contradicts_known.Goals as goal

pub returns-then-contradict : goal.returns-then-contradict
returns-then-contradict g c =
    let (place, below, is) = turn_has c.loop-g.invariant c.in-Some.ensures.steps in
    iff_yes (place, c.in-Some.g, below, is, c.contradict.ensures.0 c.if-contradict.true)

pub loop-g-preserved : goal.loop-g-preserved
loop-g-preserved g c = turn_more c.loop-g.invariant c.in-Some.ensures.steps (iff_not c.contradict.ensures c.if-contradict.false)

pub returns : goal.returns
returns g c = iff_no (λ (place, other, below, is, why). turns_end c.loop-g.invariant c.in-None.ensures.steps.0 place other below (rw is why))

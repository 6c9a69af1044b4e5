-- One more fact is processed.
use Rattle.sas_groups.proofs.Imports.{All-contains, Fact, Contradict, Any, Alone, known_on}
use Rattle.sas_groups.proofs.Iff.{iff_yes, iff_no, iff_not}
use Rattle.sas_groups.proofs.Turns.{turn_has, turn_more, turns_end}
use Rattle.sas_groups.proofs.clashes.clash.Goals as goal

pub returns-then-contradicts_known : goal.returns-then-contradicts_known
returns-then-contradicts_known g c =
    let w = c.contradicts_known.ensures.0 c.if-contradicts_known.true in
    iff_yes (c.in-Some.f, w.1, turn_has c.loop-f.invariant c.in-Some.ensures.steps, (w.0, w.2, w.3), w.4)

pub loop-f-preserved : goal.loop-f-preserved
loop-f-preserved g c = turn_more c.loop-f.invariant c.in-Some.ensures.steps (iff_not c.contradicts_known.ensures c.if-contradicts_known.false)

pub returns : goal.returns
returns g c =
    let all = known_on c.args.task.now c.args.premises.now in
    iff_no (λ (f, other, in_f, in_other, why). All-contains (λ (x : Fact). Any (Contradict (Alone c.args.group.now) x) all → ⊥) all f
    (turns_end c.loop-f.invariant c.in-None.ensures.steps.0) in_f (in_other.0, other, in_other.1, in_other.2, why))

-- One more effect, which is the lowest that may set another fact, or isn't.
use Rattle.sas_mutex.proofs.Imports.{iff_not, arith, take_all}
use Rattle.sas_mutex.proofs.LowestEffects.{lower_found, none_lower}
use Rattle.sas_mutex.proofs.lowest.lowest_among.Goals as goal
use Rattle.sas_mutex.proofs.lowest.lowest_among.Goals.{then-other-lowest+then-not-not_both, else-other-lowest, else-other-lowest-via-then-other-lowest+else-not-not_both, else-other-lowest-via-else-other-lowest}

pub loop-other-preserved : goal.loop-other-preserved
loop-other-preserved g c =
    let inv = c.loop-other.invariant in
    elim c.if-other-lowest.branch [
      | then-other-lowest+then-not-not_both w ↦ rw w.recorded-is (rw w.lowest-is (record {
        notes = w.not_both.ensures.notes;
        lowest = lower_found _ _ _ _ _ _ inv.lowest c.loop-other-test.true w.if-other-lowest.true (iff_not w.not_both.ensures.is w.if-not-not_both.true);
      }))
      | else-other-lowest w ↦ elim w.else-other-lowest.branch [
        | else-other-lowest-via-then-other-lowest+else-not-not_both w' ↦ rw w.recorded-is (rw w.lowest-is (rw w'.recorded-is (record {
          notes = w'.not_both.ensures.notes;
          lowest = none_lower _ _ _ _ _ _ inv.lowest c.loop-other-test.true (λ lt. w'.not_both.ensures.is.0 w'.if-not-not_both.false);
        })))
        | else-other-lowest-via-else-other-lowest w' ↦ rw w.recorded-is (rw w.lowest-is (rw w'.recorded-is (record {
          notes = inv.notes;
          lowest = none_lower _ _ _ _ _ _ inv.lowest c.loop-other-test.true (λ lt. absurd (let ge = w'.if-other-lowest.false in omega arith));
        })))
      ]
    ]

pub returns-clause-lowest : goal.returns-clause-lowest
returns-clause-lowest g c = rw (take_all c.loop-other.other-index c.args.effects.now c.loop-other-test.false) at c.loop-other.invariant.lowest

-- The other effect may set a second fact of the group.
use Rattle.sas_groups.proofs.Imports.{below_more, arith}
use Rattle.sas_groups.proofs.Iff.{iff_no, iff_not}
use Rattle.sas_groups.proofs.keeping.is_single.Goals as goal

pub returns-then-not-not_both : goal.returns-then-not-not_both
returns-then-not-not_both g c = iff_no (λ single. iff_not c.not_both.ensures c.if-not-not_both.true (single c.loop-other.other (omega arith)))

pub loop-other-preserved : goal.loop-other-preserved
loop-other-preserved g c = below_more _ _ c.loop-other.invariant (c.not_both.ensures.0 c.if-not-not_both.false)

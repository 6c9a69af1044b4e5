-- One more effect sets no other fact of the group.
use Rattle.sas_mutex.proofs.Imports.{◌≡◌, length, subst, arith, iff_no, iff_not, below_more, rules, EffectPlace, operator_of}
use Rattle.sas_mutex.proofs.effects.FiringEffect.is_single_of_all.Goals as goal

pub loop-other-preserved : goal.loop-other-preserved
loop-other-preserved g c = record {
  notes = c.not_both.ensures.notes;
  single = below_more _ _ c.loop-other.invariant.single (c.not_both.ensures.is.0 c.if-not-not_both.false);
}

pub loop-other-init : goal.loop-other-init
loop-other-init g c = search rules

pub returns-then-not-not_both-clause-is : goal.returns-then-not-not_both-clause-is
returns-then-not-not_both-clause-is g c =
    let count = subst (λ (s : EffectPlace). c.effects-other-end.result ≡ length (operator_of s).effects) c.self.view_is c.effects-other-end.ensures in
    iff_no (λ single. iff_not c.not_both.ensures.is c.if-not-not_both.true (single c.loop-other.other (omega (arith, count))))

-- One more effect sets no other fact of the group, or doesn't exist. Each effect on the variable is
-- one of these.
use Rattle.sas_mutex.proofs.Imports.{◌≡◌, length, ◌∙◌, iff_not, below_more, subst, arith, get_or_default, EffectPlace, operator_of, IsApartAt}
use Rattle.sas_mutex.proofs.effects.FiringEffect.is_single_on.Goals as goal
use Rattle.sas_mutex.proofs.effects.FiringEffect.is_single_on.Goals.{else-other-effects-via-then-other-effects+else-not-not_both, else-other-effects-via-else-other-effects}

pub loop-other-preserved : goal.loop-other-preserved
loop-other-preserved g c =
    let count = subst (λ (s : EffectPlace). c.effects.result ≡ length (operator_of s).effects) c.self.view_is c.effects.ensures in
    let inv = c.loop-other.invariant in
    elim c.else-other-effects.branch [
      | else-other-effects-via-then-other-effects+else-not-not_both w ↦ rw w.recorded-is (record {
        notes = w.not_both.ensures.notes;
        apart = below_more _ _ inv.apart (λ lt. w.not_both.ensures.is.0 w.if-not-not_both.false);
      })
      | else-other-effects-via-else-other-effects w ↦ rw w.recorded-is (record {
        notes = inv.notes;
        apart = below_more _ _ inv.apart (λ lt. absurd (let ge = w.if-other-effects.false in omega (arith, count)));
      })
    ]

pub returns-clause-yes : goal.returns-clause-yes
returns-clause-yes g c t other on lt =
    let effects = c.in-Some.effects.now in
    let (k, within, at) = c.in-Some.ensures other lt on in
    subst (IsApartAt c.args.self.now c.args.kept.now c.args.group) (get_or_default effects k 0 other within ∙ at)
    (c.loop-other.invariant.apart k (let end = c.loop-other-test.false in omega arith)) lt

pub loop-other-init : goal.loop-other-init
loop-other-init g c = record { notes = c.requires.notes; apart = λ k lt. absurd (omega arith) }

pub returns-then-not-not_both-clause-no : goal.returns-then-not-not_both-clause-no
returns-then-not-not_both-clause-no g c _ single =
    let count = subst (λ (s : EffectPlace). c.effects.result ≡ length (operator_of s).effects) c.self.view_is c.effects.ensures in
    iff_not c.not_both.ensures.is c.if-not-not_both.true (single _ (omega (arith, count)))

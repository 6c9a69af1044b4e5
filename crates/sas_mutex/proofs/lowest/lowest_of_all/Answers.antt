-- One more effect.
use Rattle.std.proofs.lemmas.Grind.{common_steps}
use Rattle.sas_mutex.proofs.Imports.{iff_not, ◌≡◌, ◌<◌, length, ap, subst, ◌∙◌, below_more, arith, EffectPlace, operator_of}
use Rattle.sas_mutex.proofs.lowest.lowest_of_all.Goals as goal
use Rattle.sas_mutex.proofs.lowest.lowest_of_all.Given.{Over}
use Rattle.sas_mutex.proofs.lowest.lowest_of_all.Goals.{After-effects-effects}

pub loop-other-preserved : goal.loop-other-preserved
loop-other-preserved g c = record {
  notes = c.not_both.ensures.notes;
  below = below_more _ _ c.loop-other.invariant.below (c.not_both.ensures.is.0 c.if-not-not_both.false);
}

-- the number of effects
count : (g : Over) (c : After-effects-effects g) → c.effects-effects.result ≡ length (operator_of c.args.firing.now).effects
count g c = c.effects-effects.ensures ∙ ap (λ (f : EffectPlace). length (operator_of f).effects) c.firing.view_is

pub not_both-requires-clause-other : goal.not_both-requires-clause-other
not_both-requires-clause-other g c = subst (λ n. c.loop-other.other < n) (count g (goal.at.not_both-requires-clause-other g c).After-effects-effects) c.loop-other-test.true

pub returns-then-not-not_both-clause-lowest : goal.returns-then-not-not_both-clause-lowest
returns-then-not-not_both-clause-lowest g c = record {
  within = let all = count g (goal.at.returns-then-not-not_both-clause-lowest g c).After-effects-effects in omega (arith, all, c.loop-other-test.true);
  may = λ lt. iff_not c.not_both.ensures.is c.if-not-not_both.true;
  below = λ other lt looked. c.loop-other.invariant.below other lt;
}

pub returns-clause-lowest : goal.returns-clause-lowest
returns-clause-lowest g c = grind (arith, common_steps, count)

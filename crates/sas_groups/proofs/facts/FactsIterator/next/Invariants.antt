-- All prevail conditions were returned, and the remaining facts are unchanged.
use Rattle.sas_groups.proofs.Imports.{◌≡◌, [], length, facts_left}
use Rattle.sas_groups.proofs.facts.FactsIterator.next.Given as goal

abbrev pub invariant-loop-effect : goal.invariant-loop-effect
invariant-loop-effect l = record {
  left : facts_left l.self ≡ facts_left l.fn.self;
  no_prevail : l.self.prevail.now ≡ [];
}

abbrev pub decreases-loop-effect : goal.decreases-loop-effect
decreases-loop-effect l = length l.self.effects.now

-- All effects were looked at.
use Rattle.sas_mutex.proofs.Imports.{◌≡◌, length, subst, arith, Parts, operator_at}
use Rattle.sas_mutex.proofs.VerdictsSoFar.{next_operator}
use Rattle.sas_mutex.proofs.joint.find_broken_by.Goals as goal

pub returns-clause-verdicts : goal.returns-clause-verdicts
returns-clause-verdicts g c =
    let count = subst (λ (q : Parts). c.effects-effect-end.result ≡ length (operator_at q c.args.operator).effects) c.indexed.view_is c.effects-effect-end.ensures in
    let known = c.loop-effect.invariant.verdicts in
    record {
      greatest = known.greatest;
      so_far = next_operator c.args.indexed.now c.loop-effect.keeping.family.kept c.args.operator c.loop-effect.effect c.loop-effect.found.verdicts (omega (arith, count)) known.so_far;
      failures = known.failures;
    }

pub effects-effect-end-requires : goal.effects-effect-end-requires
effects-effect-end-requires g c = rw c.indexed.view_is c.requires.operator

pub find_broken_by_effect-requires : goal.find_broken_by_effect-requires
find_broken_by_effect-requires g c = search (arith)

-- The facts so far are processed.
use Rattle.sas_axioms.proofs.Imports.{ℕ, List, drop, HaveGone, SameWork, IsBetween}
use Rattle.sas_axioms.proofs.following.count_gone.Given as goal

abbrev pub invariant-loop-fact : goal.invariant-loop-fact
invariant-loop-fact g l = record {
  same : SameWork l.fn.work l.work;
  so_far : (s m : List ℕ) × HaveGone l.indexed (drop l.fact-index l.gone) m l.state × IsBetween l.indexed s 0 m l.work;
}

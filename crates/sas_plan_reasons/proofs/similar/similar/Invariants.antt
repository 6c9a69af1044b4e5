-- No lower operator has the words in the same order, and the lowest one that has them in some order is noted.
use Rattle.sas_plan_reasons.proofs.Imports.{ℕ, ◌<◌, IsAlike}
use Rattle.sas_plan_reasons.proofs.SimilarNames.{IsPermutedBelow}
use Rattle.sas_plan_reasons.proofs.similar.similar.Given as goal

abbrev pub invariant-loop-operator : goal.invariant-loop-operator
invariant-loop-operator g l = record {
  none : (lower : ℕ) → lower < l.operator → IsAlike (g.T.Grounded.says l.task) l.name lower → ⊥;
  permuted : IsPermutedBelow (g.T.Grounded.says l.task) l.name l.operator l.permuted;
}

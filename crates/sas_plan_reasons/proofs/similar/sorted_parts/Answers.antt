-- The parts were sorted.
use Rattle.std.proofs.Common.{List, subst, ℕ}
use Rattle.sas_plan_reasons.specs.Similar.{AreSorted}
use Rattle.sas_plan_reasons.proofs.BorrowedWords.{values, sorted_values}
use Rattle.sas_plan_reasons.proofs.similar.sorted_parts.Goals as goal

pub returns : goal.returns
returns c = subst (λ (ps : List (List ℕ)). AreSorted ps (values c.sort.new.self.items)) c.in_ok-sorted.ensures (sorted_values _ _ c.in_ok-sort.ensures.permutation c.in_ok-sort.ensures.sorted)

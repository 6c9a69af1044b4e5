use Rattle.sas_requests.proofs.Imports.{◌≡◌, ℕ, ◌≤◌, length, OpensFirst, AreAnswered}
use Rattle.sas_requests.proofs.many.answer_each.Given as goal

abbrev pub invariant-loop-number : goal.invariant-loop-number
invariant-loop-number g l = record {
  task : l.judge ≡ l.fn.judge;
  labels : g.S.PlanInputs.labels l.plans ≡ g.S.PlanInputs.labels l.fn.plans;
  end : l.number-end ≡ length (g.S.PlanInputs.labels l.fn.plans);
  later : (k : ℕ) → l.number ≤ k → g.S.PlanInputs.bytes l.plans k ≡ g.S.PlanInputs.bytes l.fn.plans k;
  opened : OpensFirst g.S.PlanInputs.open_gives l.number l.fn.plans l.plans;
  reported : AreAnswered l.fn.judge.reasons l.fn.judge.loaded (g.S.PlanInputs.bytes l.fn.plans) (g.S.PlanInputs.labels l.fn.plans) l.number l.text.items l.tally;
}

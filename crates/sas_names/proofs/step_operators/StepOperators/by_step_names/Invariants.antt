-- The steps so far have the operators of their names.
use Rattle.sas_names.proofs.Imports.{ℕ, ◌<◌, [], get_or, IsNextNamed, existing, AreChains}
use Rattle.sas_names.proofs.step_operators.StepOperators.by_step_names.Given as goal

abbrev pub invariant-loop-step : goal.invariant-loop-step
invariant-loop-step g l = record {
  are : AreChains (g.T.Grounded.says l.task) (g.P.Stepwise.says l.plan).steps l.names l.found;
  lowest : (step : ℕ) → step < l.step
      → IsNextNamed (g.T.Grounded.says l.task) (get_or (g.P.Stepwise.says l.plan).steps step []) 0 (existing (g.T.Grounded.says l.task) (get_or l.found.firsts.items step 0));
}

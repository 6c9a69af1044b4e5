-- The values of the variables so far.
use Rattle.sas_meaning.proofs.Imports.{◌≡◌, take}
use Rattle.sas_meaning.proofs.state.State.of_section.Given as goal

abbrev pub invariant-loop-var : goal.invariant-loop-var
invariant-loop-var g l = record {
  so_far : l.values ≡ take l.var (g.T.Grounded.says l.task).init;
}

use Rattle.sas_flat.proofs.Imports.{arith}
use Rattle.sas_flat.proofs.Sums.{variable_lines}
use Rattle.sas_flat.proofs.variables.Variables.values.Goals as goal

pub returns : goal.returns
returns c = omega (arith, c.len.ensures, variable_lines c.self.inside.columns c.args.self.now c.self.invariant c.self.view_is)

use Rattle.sas_flat.proofs.Imports.{arith}
use Rattle.sas_flat.proofs.FoundVariables.{as_many, values_ordered, value_number}
use Rattle.sas_flat.proofs.variables.Variables.range.Goals as goal

pub end-requires : goal.end-requires
end-requires c = omega (arith, c.requires, as_many c.self.inside.columns c.args.self.now c.self.view_is)

pub start-requires : goal.start-requires
start-requires c = omega (arith, c.requires, as_many c.self.inside.columns c.args.self.now c.self.view_is)

pub overflow_sub-result : goal.overflow_sub-result
overflow_sub-result c = rw (c.start.ensures, c.end.ensures) (values_ordered c.self.inside.columns c.args.self.now c.self.view_is c.self.invariant c.args.var c.requires)

pub returns : goal.returns
returns c = omega (arith, c.start.ensures, c.end.ensures, value_number c.self.inside.columns c.args.self.now c.self.view_is c.self.invariant c.args.var c.requires)

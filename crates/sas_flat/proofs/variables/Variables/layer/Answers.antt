use Rattle.sas_flat.proofs.Imports.{◌<◌, length, sym, ap, ◌∙◌, arith, get_or, None}
use Rattle.sas_flat.proofs.FoundVariables.{as_many, layer_found}
use Rattle.sas_flat.proofs.variables.Variables.layer.Goals as goal

pub bounds-as_slice-var : goal.bounds-as_slice-var
bounds-as_slice-var c = rw c.as_slice.ensures.value (omega (arith, c.requires, c.self.invariant.layers, as_many c.self.inside.columns c.args.self.now c.self.view_is))

pub offset_bounds-as_slice-var : goal.offset_bounds-as_slice-var
offset_bounds-as_slice-var c =
    let below : c.args.var < length c.as_slice.result.now = rw c.as_slice.ensures.value (omega (arith, c.requires, c.self.invariant.layers, as_many c.self.inside.columns c.args.self.now c.self.view_is)) in
    omega (arith, below, c.as_slice.type_inv)

pub returns : goal.returns
returns c = ap (λ l. get_or l c.args.var None) c.as_slice.ensures.value ∙ sym (layer_found c.self.inside.columns c.args.self.now c.self.view_is c.args.var c.requires)

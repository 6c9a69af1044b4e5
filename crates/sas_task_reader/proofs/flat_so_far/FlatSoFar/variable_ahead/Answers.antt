use Rattle.sas_task_reader.proofs.Imports.{ℕ, Some, refl, sym, ap, ◌∙◌, the_view, variable, variables_opened, variables_more}
use Rattle.sas_task_file.specs.TaskEvents.{behind_variable}
use Rattle.sas_task_file.specs.declared.so_far.SoFar.{SoFar}
use Rattle.sas_task_reader.proofs.StoredParts.{with_variables, one_variable_more}
use Rattle.sas_task_reader.proofs.flat_so_far.FlatSoFar.variable_ahead.Goals as goal

pub returns-in_default-push : goal.returns-in_default-push
returns-in_default-push g c = λ ranges.
    let old = c.self.inside.variables in
    let found = c.in-Ok-Some.found in
    let (values, names, many, ahead) = rw c.in-Ok-Some.field-0-is at c.in-Ok-Some.ensures.found in
    let v = variable found.name.now found.layer values in
    let more = variables_more old (record old { values = c.read_variable.new.names }) refl refl refl c.self.invariant.0 (record { more = values; is = names }) _ _ _ c.in_default-push.ensures.ok in
    record {
      took = (
        v,
        (ahead, ap (λ (n : ℕ). Some n) (sym many)),
        λ lines s same.
            one_variable_more (the_view c.self.inside) v c.clear.new.self found.layer c.clear-in-Ok-Some.new.self _ c.clear.ensures refl c.clear-in-Ok-Some.ensures more.is
            ∙ ap (λ (s : SoFar). behind_variable s v) (c.self.view_is ∙ same),
      );
      none = tt;
      memory = tt;
    }

pub returns-in_ok-missed-in_default : goal.returns-in_ok-missed-in_default
returns-in_ok-missed-in_default g c = λ ranges.
    let old = c.self.inside.variables in
    let begun = variables_opened old (record old { values = c.read_variable.new.names }) refl refl refl c.self.invariant.0 c.read_variable.ensures.kept in
    record { took = tt; none = ap (with_variables (the_view c.self.inside)) (c.cut-in_default.ensures.is ∙ begun.is) ∙ c.self.view_is; memory = tt }

pub push-requires : goal.push-requires
push-requires g c =
    let old = c.self.inside.variables in
    (variables_opened old (record old { values = c.read_variable.new.names }) refl refl refl c.self.invariant.0 c.read_variable.ensures.kept).align

pub cut-requires-in_default : goal.cut-requires-in_default
cut-requires-in_default g c =
    let old = c.self.inside.variables in
    (variables_opened old (record old { values = c.read_variable.new.names }) refl refl refl c.self.invariant.0 c.read_variable.ensures.kept).align

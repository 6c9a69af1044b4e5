use Rattle.sas_task_reader.proofs.Imports.{[], ap, ◌∙◌, refl, the_view, variable}
use Rattle.sas_task_file.specs.TaskEvents.{after}
use Rattle.sas_task_file.specs.declared.so_far.SoFar.{SoFar}
use Rattle.sas_task_file.specs.declared.places.Event.TheVariants as event
use Rattle.sas_task_reader.proofs.StoredParts.{one_variable_more}
use Rattle.sas_task_reader.proofs.flat_so_far.FlatSoFar.variable.Goals as goal

pub returns : goal.returns
returns c = λ said.
    let begun = c.self.inside.begun in
    let v = variable begun.name begun.layer begun.values in
    let more = rw c.as_slice.ensures at c.in_default.ensures.ok in
    one_variable_more (the_view c.self.inside) v c.clear.new.self begun.layer c.clear-2.new.self _ c.clear.ensures refl c.clear-2.ensures more.is
    ∙ ap (λ (s : SoFar). after s event.Variable said []) c.self.view_is

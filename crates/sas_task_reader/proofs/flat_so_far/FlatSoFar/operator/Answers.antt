use Rattle.sas_task_reader.proofs.Imports.{[], ap, ◌∙◌, the_view, operator}
use Rattle.sas_task_file.specs.TaskEvents.{after}
use Rattle.sas_task_file.specs.declared.so_far.SoFar.{SoFar}
use Rattle.sas_task_file.specs.declared.places.Event.TheVariants as event
use Rattle.sas_task_reader.proofs.StoredParts.{one_operator_more}
use Rattle.sas_task_reader.proofs.flat_so_far.FlatSoFar.operator.Goals as goal

pub returns : goal.returns
returns c =
    let begun = c.self.inside.begun in
    let o = operator begun.name begun.facts begun.effects c.args.said.now.number in
    let more = rw (c.as_slice.ensures, c.as_slice-2.ensures) at c.in_default.ensures.ok in
    one_operator_more (the_view c.self.inside) o c.clear.new.self c.clear-2.new.self c.clear-3.new.self _ c.clear.ensures c.clear-2.ensures c.clear-3.ensures more.is
    ∙ ap (λ (s : SoFar). after s event.Operator c.args.said.now []) c.self.view_is

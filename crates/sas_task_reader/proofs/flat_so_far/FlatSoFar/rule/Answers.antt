use Rattle.sas_task_reader.proofs.Imports.{[], ◌∷◌, ◌++◌, ap, ◌∙◌, the_view, effect_with, rules_more}
use Rattle.sas_task_file.specs.TaskEvents.{after}
use Rattle.sas_task_file.specs.declared.so_far.SoFar.{SoFar}
use Rattle.sas_task_file.specs.declared.places.Event.TheVariants as event
use Rattle.sas_task_reader.proofs.StoredParts.{another_rule}
use Rattle.sas_task_reader.proofs.flat_so_far.FlatSoFar.rule.Goals as goal

pub returns : goal.returns
returns c =
    let head = c.args.said.now.head in
    let facts = c.self.inside.begun.facts in
    let lists = rw c.as_slice.ensures at c.in_ok-append.ensures.ok in
    let heads = c.in_ok-push.ensures.items ∙ ap (λ l. l ++ head ∷ []) c.in_ok-reserve.ensures.items in
    another_rule (the_view c.self.inside) (effect_with head facts) c.clear.new.self _ c.clear.ensures (rules_more _ _ _ _ head facts c.self.invariant.4 heads lists)
    ∙ ap (λ (s : SoFar). after s event.Rule c.args.said.now []) c.self.view_is

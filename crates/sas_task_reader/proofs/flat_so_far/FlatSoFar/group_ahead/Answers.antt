use Rattle.sas_task_reader.proofs.Imports.{refl, ap, ◌∙◌, the_view, lists_opened, one_list_more}
use Rattle.sas_flat.proofs.Blocks.{ends_opened}
use Rattle.sas_task_file.specs.TaskEvents.{behind_group}
use Rattle.sas_task_file.specs.declared.so_far.SoFar.{SoFar}
use Rattle.sas_task_reader.proofs.StoredParts.{with_groups, one_group_more}
use Rattle.sas_task_reader.proofs.flat_so_far.FlatSoFar.group_ahead.Goals as goal

pub returns-in_ok-close-in-Ok-Some : goal.returns-in_ok-close-in-Ok-Some
returns-in_ok-close-in-Ok-Some g c =
    let (facts, is, ahead) = rw c.in-Ok-Some.field-0-is at c.in-Ok-Some.ensures.found in
    let more = c.in_ok-close-in-Ok-Some.ensures.ok ∙ one_list_more _ _ _ c.self.invariant.1 (record { more = facts; is = is }) in
    rw c.of.ensures (record {
      took = (facts, (ahead, refl), λ lines s same. one_group_more (the_view c.self.inside) facts c.clear.new.self _ c.clear.ensures more ∙ ap (λ (s : SoFar). behind_group s facts) (c.self.view_is ∙ same));
      none = tt;
      memory = tt;
    })

pub returns-in_ok-missed-in_default : goal.returns-in_ok-missed-in_default
returns-in_ok-missed-in_default g c = record {
  took = tt;
  none = ap (with_groups (the_view c.self.inside)) (c.cut.ensures.is ∙ lists_opened _ _ _ c.self.invariant.1 c.read_group.ensures.kept) ∙ c.self.view_is;
  memory = tt;
}

pub close-requires : goal.close-requires
close-requires g c = ends_opened _ _ _ c.self.invariant.1 c.read_group.ensures.kept

pub cut-requires : goal.cut-requires
cut-requires g c = ends_opened _ _ _ c.self.invariant.1 c.read_group.ensures.kept

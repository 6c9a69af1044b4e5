use Rattle.sas_task_reader.proofs.Imports.{[], ◌∷◌, ◌++◌, length, refl, sym, ap, ◌∙◌, the_view, lists_in, effect_with, effects_of, lists_opened, one_list_more, rules_more, pairs_more}
use Rattle.sas_flat.proofs.Blocks.{ends_opened}
use Rattle.sas_task_file.specs.TaskEvents.{behind_rule}
use Rattle.sas_task_file.specs.declared.so_far.SoFar.{SoFar}
use Rattle.sas_task_reader.proofs.StoredParts.{with_rules, another_rule}
use Rattle.sas_task_reader.proofs.flat_so_far.FlatSoFar.rule_ahead.Goals as goal

pub invariant_of-self-in-Some-1 : goal.invariant_of-self-in-Some-1
invariant_of-self-in-Some-1 g c =
    let head = c.in-Ok-Some.found.head in
    let i = c.self.invariant in
    let (facts, is, ahead) = rw c.in-Ok-Some.field-0-is at c.in-Ok-Some.ensures.found in
    let lists = c.in_ok-close-in-Ok-Some.ensures.ok ∙ one_list_more _ _ _ i.3 (record { more = facts; is = is }) in
    let heads = c.in_default-push.ensures.items ∙ ap (λ l. l ++ head ∷ []) c.in_ok-reserve.ensures.items in
    (i.0, i.1, i.2, c.in_ok-close-in-Ok-Some.ensures.align, pairs_more _ _ _ _ head facts i.4 heads lists)

pub invariant_of-self-in_err-close-in-Ok-Some : goal.invariant_of-self-in_err-close-in-Ok-Some
invariant_of-self-in_err-close-in-Ok-Some g c =
    let i = c.self.invariant in
    let lists = c.in_err-close-in-Ok-Some.ensures.err ∙ lists_opened _ _ _ i.3 c.read_rule.ensures.kept in
    (i.0, i.1, i.2, c.in_err-close-in-Ok-Some.ensures.align, ap length lists ∙ i.4 ∙ sym (ap length c.in_ok-reserve.ensures.items))

pub invariant_of-self-in_err-missed-in_default : goal.invariant_of-self-in_err-missed-in_default
invariant_of-self-in_err-missed-in_default g c =
    let i = c.self.invariant in
    let lists = c.cut.ensures.is ∙ lists_opened _ _ _ i.3 c.read_rule.ensures.kept in
    (i.0, i.1, i.2, c.cut.ensures.align, ap length lists ∙ i.4 ∙ sym (ap length c.in_ok-reserve.ensures.items))

pub invariant_of-self-in_default : goal.invariant_of-self-in_default
invariant_of-self-in_default g c =
    let i = c.self.invariant in
    let lists = c.cut.ensures.is ∙ lists_opened _ _ _ i.3 c.read_rule.ensures.kept in
    (i.0, i.1, i.2, c.cut.ensures.align, ap length lists ∙ i.4 ∙ sym (ap length c.in_ok-reserve.ensures.items))

pub returns-in_default-push : goal.returns-in_default-push
returns-in_default-push g c =
    let head = c.in-Ok-Some.found.head in
    let (facts, is, ahead) = rw c.in-Ok-Some.field-0-is at c.in-Ok-Some.ensures.found in
    let lists = c.in_ok-close-in-Ok-Some.ensures.ok ∙ one_list_more _ _ _ c.self.invariant.3 (record { more = facts; is = is }) in
    let heads = c.in_default-push.ensures.items ∙ ap (λ l. l ++ head ∷ []) c.in_ok-reserve.ensures.items in
    let r = effect_with head facts in
    rw c.of.ensures (record {
      took = (
        r,
        (ahead, refl),
        λ lines s same.
            another_rule (the_view c.self.inside) r c.clear.new.self _ c.clear.ensures (rules_more _ _ _ _ head facts c.self.invariant.4 heads lists)
            ∙ ap (λ (s : SoFar). behind_rule s r) (c.self.view_is ∙ same),
      );
      none = tt;
      memory = tt;
    })

pub returns-in_ok-missed-in_default : goal.returns-in_ok-missed-in_default
returns-in_ok-missed-in_default g c =
    let lists = c.cut.ensures.is ∙ lists_opened _ _ _ c.self.invariant.3 c.read_rule.ensures.kept in
    record { took = tt; none = ap (with_rules (the_view c.self.inside)) (ap (λ l. effects_of l (lists_in c.cut.new.self)) c.in_ok-reserve.ensures.items ∙ ap (effects_of c.self.inside.heads.items) lists) ∙ c.self.view_is; memory = tt }

pub close-requires : goal.close-requires
close-requires g c = ends_opened _ _ _ c.self.invariant.3 c.read_rule.ensures.kept

pub cut-requires : goal.cut-requires
cut-requires g c = ends_opened _ _ _ c.self.invariant.3 c.read_rule.ensures.kept

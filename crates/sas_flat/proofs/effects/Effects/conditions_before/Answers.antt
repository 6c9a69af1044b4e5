use Rattle.sas_flat.proofs.Imports.{◌≡◌, List, length, take, sym, ap, ◌∙◌, arith, sum_by, take-length, take_all, Fact}
use Rattle.sas_flat.proofs.EffectRows.{effect_count}
use Rattle.sas_flat.proofs.Sums.{rule_lines}
use Rattle.sas_flat.proofs.effects.Effects.conditions_before.Goals as goal
use Rattle.sas_flat.proofs.effects.Effects.conditions_before.Goals.{then-count-lists, else-count-lists}

pub returns : goal.returns
returns c =
    let changes = c.self.inside.changes.items in
    let lists = c.self.inside.conditions in
    let rules = c.args.self.now in
    let n = c.args.count in
    let whole = rule_lines changes lists rules n c.self.view_is (omega (arith, c.requires, effect_count changes lists rules c.self.view_is)) in
    let first : take c.if-count-lists.with_conditions lists ≡ take n lists = elim c.if-count-lists.branch [
      | then-count-lists w ↦ ap (λ k. take k lists) w.with_conditions-is
      | else-count-lists w ↦ ap (λ k. take k lists) (w.with_conditions-is ∙ c.len-lists.ensures) ∙ take-length lists ∙ sym (take_all n lists (omega (arith, w.if-count-lists, c.len-lists.ensures)))
    ] in
    omega (arith, c.items_before.ensures, ap (λ (l : List (List Fact)). sum_by (λ (x : List Fact). length x) l) first, whole)

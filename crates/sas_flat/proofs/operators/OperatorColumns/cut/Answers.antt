use Rattle.sas_flat.proofs.Imports.{Head, refl, sym, ap, ◌∙◌, take, start_of, length-map, prevail_ends, effect_ends}
use Rattle.sas_flat.proofs.Grown.{operators_cut}
use Rattle.sas_flat.proofs.operators.OperatorColumns.cut.Goals as goal

pub returns : goal.returns
returns c =
    let old = c.args.self.now in
    let many = c.len.ensures ∙ old.heads.ok.0 in
    operators_cut old _ refl refl c.requires
    (c.truncate.ensures.items ∙ ap (λ n. take n old.prevail.items) (c.before-end.ensures.prevail ∙ ap (start_of (prevail_ends old.heads.items)) (many ∙ sym (length-map old.heads.items (λ (h : Head). h.prevail)))))
    (c.truncate-2.ensures ∙ ap (λ n. take n old.effects) (c.before-end.ensures.effects ∙ ap (start_of (effect_ends old.heads.items)) (many ∙ sym (length-map old.heads.items (λ (h : Head). h.effects)))))

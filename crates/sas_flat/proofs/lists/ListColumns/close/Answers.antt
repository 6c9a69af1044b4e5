use Rattle.std.proofs.lemmas.Grind.{elements}
use Rattle.sas_flat.proofs.Imports.{arith, [], ◌∷◌, ◌++◌, ap, ◌∙◌, lists_of}
use Rattle.sas_flat.proofs.Blocks.{lists_closed}
use Rattle.sas_flat.proofs.lists.ListColumns.close.Goals as goal

pub returns-in-Ok-clause-ok : goal.returns-in-Ok-clause-ok
returns-in-Ok-clause-ok g c =
    let old = c.args.self.now in
    ap (λ e. lists_of old.items.items e) (c.in-Ok.ensures.ok ∙ ap (λ n. old.ends ++ n ∷ []) (c.len.ensures ∙ old.items.ok.0))
    ∙ lists_closed old.items.items old.ends c.requires

pub returns-in-Ok-clause-align : goal.returns-in-Ok-clause-align
returns-in-Ok-clause-align g c = grind (arith, elements)

use Rattle.sas_flat.proofs.Imports.{ap, ◌∙◌, take, start_of, lists_of}
use Rattle.sas_flat.proofs.Blocks.{ends_done, lists_done}
use Rattle.sas_flat.proofs.lists.ListColumns.cut.Goals as goal

pub returns : goal.returns
returns g c =
    let old = c.args.self.now in
    let cut = c.truncate.ensures.items ∙ ap (λ n. take n old.items.items) (c.start.ensures ∙ ap (start_of old.ends) c.len.ensures) in
    record { align = rw cut (ends_done _ _ c.requires); is = ap (λ l. lists_of l old.ends) cut ∙ lists_done _ _ c.requires }

use Rattle.sas_flat.proofs.Imports.{◌∙◌, on_ok_weaker, on_err_weaker}
use Rattle.sas_flat.proofs.Blocks.{ends_opened, lists_opened, one_list_more}
use Rattle.sas_flat.proofs.lists.ListColumns.append.Goals as goal

pub close-requires : goal.close-requires
close-requires g c = ends_opened _ _ _ c.requires (record { more = c.args.list.now; is = c.in_ok-extend_from_slice.ensures.items })

pub returns-clause-ok : goal.returns-clause-ok
returns-clause-ok g c =
    on_ok_weaker c.close.result (λ more. more ∙ one_list_more _ _ _ c.requires (record { more = c.args.list.now; is = c.in_ok-extend_from_slice.ensures.items })) c.close.ensures.ok

pub returns-clause-err : goal.returns-clause-err
returns-clause-err g c =
    on_err_weaker c.close.result (λ same. same ∙ lists_opened _ _ _ c.requires (record { more = c.args.list.now; is = c.in_ok-extend_from_slice.ensures.items })) c.close.ensures.err

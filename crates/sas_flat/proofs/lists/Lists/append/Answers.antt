use Rattle.sas_flat.proofs.Imports.{◌++◌, ap, ◌∙◌, lists_of}
use Rattle.sas_flat.proofs.Blocks.{lists_append, ends_append, ends_opened, lists_opened}
use Rattle.sas_flat.proofs.lists.Lists.append.Goals as goal

pub invariant_of-self-in-Ok : goal.invariant_of-self-in-Ok
invariant_of-self-in-Ok g c =
    rw (c.in-Ok.ensures.ok, c.in_ok-extend_from_slice.ensures.items, c.as_slice.ensures.value, c.len-start.ensures, c.self.inside.columns.items.ok.0)
    (ends_append c.self.inside.columns.items.items c.more.inside.columns.items.items c.self.inside.columns.ends c.more.inside.columns.ends c.self.invariant c.more.invariant)

pub returns-in-Ok-clause-ok : goal.returns-in-Ok-clause-ok
returns-in-Ok-clause-ok g c =
    rw (c.in-Ok.ensures.ok, c.in_ok-extend_from_slice.ensures.items, c.as_slice.ensures.value, c.len-start.ensures, c.self.inside.columns.items.ok.0)
    (lists_append c.self.inside.columns.items.items c.more.inside.columns.items.items c.self.inside.columns.ends c.more.inside.columns.ends c.self.invariant c.more.invariant
    ∙ ap (λ l. l ++ lists_of c.more.inside.columns.items.items c.more.inside.columns.ends) c.self.view_is
    ∙ ap (λ l. c.args.self.now ++ l) c.more.view_is)

pub cut-requires : goal.cut-requires
cut-requires g c = rw c.in-Err.ensures.err (ends_opened _ _ _ c.self.invariant (record { more = c.more.inside.columns.items.items; is = rw c.as_slice.ensures.value at c.in_ok-extend_from_slice.ensures.items }))

pub returns-in-Err-clause-err : goal.returns-in-Err-clause-err
returns-in-Err-clause-err g c =
    c.cut.ensures.is
    ∙ ap (λ e. lists_of c.extend_from_slice.new.self.items e) c.in-Err.ensures.err
    ∙ lists_opened _ _ _ c.self.invariant (record { more = c.more.inside.columns.items.items; is = rw c.as_slice.ensures.value at c.in_ok-extend_from_slice.ensures.items })
    ∙ c.self.view_is

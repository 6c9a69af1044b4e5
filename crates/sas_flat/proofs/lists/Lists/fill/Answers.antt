use Rattle.sas_flat.proofs.Imports.{◌-◌, [], ◌++◌, length, replicate, ap, ◌∙◌}
use Rattle.sas_flat.proofs.Blocks.{empty_more}
use Rattle.sas_flat.proofs.Kept.{ends_filled}
use Rattle.sas_flat.proofs.lists.Lists.fill.Goals as goal

pub returns-in_ok-push_same-clause-ok : goal.returns-in_ok-push_same-clause-ok
returns-in_ok-push_same-clause-ok g c =
    rw (c.in_ok-push_same.ensures.ok, c.len.ensures, c.self.inside.columns.items.ok.0, c.len-lists.ensures)
    (empty_more c.self.inside.columns.items.items (c.args.count - length c.args.self.now) c.self.inside.columns.ends c.self.invariant
    ∙ ap (λ l. l ++ replicate (c.args.count - length c.args.self.now) []) c.self.view_is)

pub invariant_of-self : goal.invariant_of-self
invariant_of-self g c =
    rw (c.in_ok-push_same.ensures.ok, c.len.ensures, c.self.inside.columns.items.ok.0)
    (ends_filled c.self.inside.columns.items.items (c.args.count - c.len-lists.result) c.self.inside.columns.ends c.self.invariant)

-- A change is on another variable than each later change.
use Rattle.sas_run.proofs.Imports.{length, ◌+◌, ◌-◌, drop, refl, arith, cases_eq, get_or-take, get_or-drop, get_or_default, length-take-le, length-drop}
use Rattle.sas_run.proofs.PlainSteps.{no_change}
use Rattle.sas_run.proofs.plain_steps.are_apart.Goals as goal

pub loop-index-preserved : goal.loop-index-preserved
loop-index-preserved c i j d below before lt =
    let changes = c.args.changes.now in
    let n = c.loop-index.index in
    let count = length changes - (n + 1) in
    let k = j - (n + 1) in
    grind (
      arith,
      cases_eq i n,
      c.loop-index.invariant i j d,
      c.if-is_one_on.ensures refl k d,
      get_or-take count (drop (n + 1) changes) k d,
      get_or-drop (n + 1) changes k d,
      length-take-le count (drop (n + 1) changes),
      length-drop (n + 1) changes,
      get_or_default changes n d no_change,
    )

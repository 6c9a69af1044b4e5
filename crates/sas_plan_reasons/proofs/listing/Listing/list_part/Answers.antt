-- The next variable is listed if its values differ.
use Rattle.sas_plan_reasons.proofs.Imports.{◌≡◌, ◌+◌, get_or, arith, rules}
use Rattle.sas_plan_reasons.proofs.ListedChanges.{lists_same, lists_next}
use Rattle.sas_plan_reasons.proofs.listing.Listing.list_part.Goals as goal
use Rattle.sas_plan_reasons.proofs.listing.Listing.list_part.Goals.{then-before-var, else-before-var}

pub loop-var-preserved : goal.loop-var-preserved
loop-var-preserved c =
    let inv = c.loop-var.invariant in
    let var = c.loop-var.var in
    let before = c.args.before.now in
    let after = c.args.after.now in
    elim c.if-before-var.branch [
      | then-before-var w ↦ rw w.self-is (record {
        below = rw (rw w.unwrap.ensures at w.push.ensures.items) (lists_next before after var c.loop-var.self.vars.items inv.below);
        room = omega (arith, inv.room, w.push.ensures.capacity);
        few = inv.few;
      })
      | else-before-var w ↦
          let same : get_or before var 0 ≡ get_or after var 0 = search (arith, rules, w.if-before-var.false) in
          rw w.self-is (record {
            below = lists_same before after var (var + 1) c.loop-var.self.vars.items (omega arith) inv.below (λ k le lt. (let is : k ≡ var = omega (arith, le, lt) in rw is same));
            room = inv.room;
            few = inv.few;
          })
    ]

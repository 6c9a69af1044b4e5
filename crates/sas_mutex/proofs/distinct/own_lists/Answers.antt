-- One more group has an own list, or doesn't need one.
use Rattle.sas_mutex.proofs.Imports.{rules, arith, ◌≡◌, ◌++◌, ◌∷◌, [], length, group_at, own_or, AreDistinct}
use Rattle.sas_mutex.proofs.InOrder.{filled, own_more, own_passed}
use Rattle.sas_mutex.proofs.distinct.own_lists.Goals as goal
use Rattle.sas_mutex.proofs.distinct.own_lists.Goals.{then-not-is_empty+in_ok-fill+in_ok-push, else-not-is_empty}

pub loop-group-preserved : goal.loop-group-preserved
loop-group-preserved g c =
    let p = c.args.layered.now in
    let group = c.loop-group.group in
    let own = c.loop-group.own in
    let inv = c.loop-group.invariant in
    let its = c.in_ok-facts.facts.items in
    let here : AreDistinct (own_or its (group_at p group)) (group_at p group) = search rules in
    elim c.if-not-is_empty.branch [
      | then-not-is_empty+in_ok-fill+in_ok-push w ↦ (let more : w.push.new.self ≡ filled p group own inv.short inv.are ++ its ∷ [] = search rules in
          let h = own_more p group own inv.short inv.are its w.push.new.self more here in
          rw (w.own-is) record { short = h.0; are = h.1 })
      | else-not-is_empty w ↦ (let none : length its ≡ 0 = search rules in
          rw (w.own-is) record { short = let before = inv.short in omega arith; are = own_passed p group own inv.short inv.are its none here })
    ]

-- Sorting a list and removing duplicates preserves its facts.
use Rattle.sas_mutex.proofs.Imports.{rules, AreDistinct}
use Rattle.sas_mutex.proofs.InOrder.{none_own, own_once, in_order_once, fact_order}
use Rattle.sas_mutex.proofs.distinct.own_list.Goals as goal

pub returns-then-is_ascending : goal.returns-then-is_ascending
returns-then-is_ascending c = none_own c.new-own.result.items c.args.facts.now (search rules) (c.is_ascending.ensures (search rules))

pub returns : goal.returns
returns c =
    let listed = c.args.facts.now in
    let sorted = c.sort.new.self.items in
    let own = c.dedup.new.self.items in
    let once : AreDistinct own listed = in_order_once {R = fact_order} listed sorted own c.in_ok-sort.ensures.sorted c.dedup.ensures.filtered (search rules) (search rules) (search rules) (search rules) (search rules) (search rules) in
    own_once own listed once

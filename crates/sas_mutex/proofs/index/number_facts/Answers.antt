-- A task has so few facts that their numbers don't overflow.
use Rattle.sas_mutex.proofs.Imports.{◌≡◌, ◌+◌, ◌<◌, [], ◌∷◌, length, ap, ◌∙◌, inl, inr, arith, get_or_default, get_or_append_left, get_or_push, length_push, cases_eq}
use Rattle.sas_mutex.proofs.Numbering.{facts_below_more, below_low}
use Rattle.sas_mutex.proofs.index.number_facts.Goals as goal
use Rattle.sas_mutex.proofs.index.number_facts.Given.{Over}

pub overflow_add-facts : goal.overflow_add-facts
overflow_add-facts g c =
    let low = below_low c.args.task.now (c.loop-var.var + 1) c.variables-var-end.ensures.well_ranged (omega (arith, c.loop-var-test.true, c.loop-var.auto.var-end, c.variables-var-end.ensures.count)) in
    omega (arith, c.loop-var.invariant.facts, c.range.ensures, facts_below_more c.args.task.now c.loop-var.var)

-- the variables so far are all
all : (g : Over) (c : goal.After-loop-var g) → c.loop-var.var ≡ length c.args.task.now.variables
all g c = omega (arith, c.loop-var-test.false, c.loop-var.auto.var-end, c.variables-var-end.ensures.count)

pub returns-clause-low : goal.returns-clause-low
returns-clause-low g c k d lt =
    let below : k < c.loop-var.var = omega (arith, c.loop-var.invariant.so_far) in
    rw (get_or_default c.loop-var.firsts.items k d 0 lt, c.loop-var.invariant.are k below) (below_low c.args.task.now k c.variables-var-end.ensures.well_ranged (omega (arith, all g c)))

pub loop-var-preserved : goal.loop-var-preserved
loop-var-preserved g c =
    let inv = c.loop-var.invariant in
    let v' = c.loop-var.var in
    let items = c.loop-var.firsts.items in
    rw c.in_ok-push.ensures.items record {
      so_far = length_push items c.loop-var.facts ∙ ap (λ n. n + 1) inv.so_far;
      are = λ v lt. elim (cases_eq v v') [
        | inl is ↦ rw is (get_or_push items c.loop-var.facts 0 v' inv.so_far ∙ inv.facts)
        | inr ne ↦ get_or_append_left items (c.loop-var.facts ∷ []) 0 v (omega (arith, inv.so_far)) ∙ inv.are v (omega arith)
      ];
      facts = omega (arith, inv.facts, c.range.ensures, facts_below_more c.args.task.now v');
    }

pub returns-clause-firsts : goal.returns-clause-firsts
returns-clause-firsts g c = record { one_each = c.loop-var.invariant.so_far ∙ all g c; are = λ v lt. c.loop-var.invariant.are v (omega (arith, all g c)) }

-- The prevail conditions, and the old values that effects without conditions require, are all preconditions.
use Rattle.sas_run.proofs.Imports.{arith, length, subst, slice_index, operator_at, AllHold, true_from_ne_false}
use Rattle.sas_run.proofs.Ranges.{preconditions_within}
use Rattle.sas_run.proofs.PlainSteps.{changes_within, met, prevail_met, olds_met, prevail_within}
use Rattle.sas_run.proofs.choice.is_applicable.Goals as goal

pub holds_all-requires : goal.holds_all-requires
holds_all-requires g c =
    let p = c.args.layered.now in
    let o = operator_at p c.args.operator in
    rw (rw c.task-task.ensures.task at c.prevail.ensures, c.requires.state.one_each)
    (prevail_within c.args.state.now o c.in-Some.changes.now c.in-Some.ensures (length p.variables) (preconditions_within p c.task-task.ensures.well_ranged c.args.operator c.requires.operator))

pub old_values_hold-requires : goal.old_values_hold-requires
old_values_hold-requires g c = search (arith, changes_within)

pub returns-then-holds_all : goal.returns-then-holds_all
returns-then-holds_all g c =
    let p = c.args.layered.now in
    let o = operator_at p c.args.operator in
    let s = c.args.state.now in
    let hold : AllHold (slice_index s) o.prevail = subst (AllHold (slice_index s)) (rw c.task-task.ensures.task at c.prevail.ensures) (c.holds_all.ensures.0 c.if-holds_all.true) in (
      (λ yes. met s o c.in-Some.changes.now c.in-Some.ensures hold (c.old_values_hold.ensures.yes yes)),
      (λ can. true_from_ne_false c.old_values_hold.result
          (λ no. c.old_values_hold.ensures.no no (olds_met s o c.in-Some.changes.now c.in-Some.ensures can))),
    )

pub returns-else-holds_all : goal.returns-else-holds_all
returns-else-holds_all g c = search (arith, operator_at, prevail_met)

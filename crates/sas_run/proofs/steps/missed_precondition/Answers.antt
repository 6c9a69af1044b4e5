-- One precondition after another is tested.
use Rattle.std.proofs.lemmas.Grind.{common_steps}
use Rattle.sas_run.proofs.Imports.{arith, ◌∙◌, ◌<◌, length, append_assoc, slice_index, All, All-head, Fact, operator_at, preconditions}
use Rattle.sas_run.proofs.Ranges.{preconditions_within}
use Rattle.sas_run.proofs.Deleted.{all_behind}
use Rattle.sas_run.proofs.Missed.{missed_next}
use Rattle.sas_run.proofs.steps.missed_precondition.Goals as goal

pub loop-fact-init : goal.loop-fact-init
loop-fact-init g c = search (arith, slice_index)

pub value-requires : goal.value-requires
value-requires g c =
    let p = c.args.layered.now in
    let Within : Fact → Type 0 = λ f. f.var < length c.args.state.now in
    let all : All Within (preconditions (operator_at p c.args.operator)) = rw c.requires.state.one_each (preconditions_within p c.task.ensures.well_ranged c.args.operator c.requires.operator) in
    All-head Within c.in-Some.fact _ (rw c.in-Some.ensures.steps at (all_behind Within c.loop-fact.yielded c.loop-fact.fact-iterator (rw c.loop-fact.invariant.left at all)))

pub returns-then-value-fact-clause-some : goal.returns-then-value-fact-clause-some
returns-then-value-fact-clause-some g c =
    missed_next (slice_index c.args.state.now) (preconditions (operator_at c.args.layered.now c.args.operator))
    c.loop-fact.yielded c.loop-fact.fact-iterator _ c.in-Some.fact c.loop-fact.invariant.left c.loop-fact.invariant.hold c.in-Some.ensures.steps
    (λ e. c.if-value-fact.true (c.value.ensures ∙ e))

pub loop-fact-preserved : goal.loop-fact-preserved
loop-fact-preserved g c = grind (arith, common_steps, append_assoc, slice_index)

pub returns-clause-none : goal.returns-clause-none
returns-clause-none g c = grind (arith, common_steps, slice_index)

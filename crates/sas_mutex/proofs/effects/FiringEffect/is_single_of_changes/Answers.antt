-- One more change sets no other fact of the group, or one does.
use Rattle.sas_mutex.proofs.Imports.{iff_not, below_more, subst, List, Fact, operator_at, Clash, known, iff_no, IsKept, operator_of, effect_of}
use Rattle.sas_mutex.proofs.PlainEffects.{within, change_is, no_conditions}
use Rattle.sas_mutex.proofs.SetFacts.{change_exists, not_beside, clash_beside}
use Rattle.sas_mutex.proofs.effects.FiringEffect.is_single_of_changes.Goals as goal

pub sets_beside-requires-clause-fact : goal.sets_beside-requires-clause-fact
sets_beside-requires-clause-fact g c =
    let plain = rw (← c.self.view_is) at c.requires.plain in
    let p = c.self.inside.task.now in
    let operator = c.self.inside.operator in
    let changes = c.args.changes.now in
    let n = c.loop-change.change-index in
    let lt = c.loop-change-test.true in
    rw (← c.self.view_is) (change_exists p c.self.invariant.0 operator n c.self.invariant.2 (within (operator_at p operator) changes plain n lt) _
    (change_is (operator_at p operator) changes plain n _ lt))

pub returns-then-sets_beside : goal.returns-then-sets_beside
returns-then-sets_beside g c =
    let f = c.args.self.now in
    let kept = c.args.kept.now in
    let changes = c.args.changes.now in
    let n = c.loop-change.change-index in
    let lt = c.loop-change-test.true in
    iff_no (λ single. c.requires.notes.noted.are.apart
    (subst (λ (conditions : List Fact). Clash (IsKept f.task kept) (known (operator_of f) (effect_of f).conditions conditions)) (no_conditions (operator_of f) changes c.requires.plain n lt)
    (clash_beside f kept c.args.group n _ (change_is (operator_of f) changes c.requires.plain n _ lt) (single n (within (operator_of f) changes c.requires.plain n lt))
    (c.sets_beside.ensures.0 c.if-sets_beside.true))))

pub loop-change-preserved : goal.loop-change-preserved
loop-change-preserved g c =
    let f = c.args.self.now in
    below_more _ _ c.loop-change.invariant (not_beside f c.args.kept.now c.args.group c.loop-change.change-index _
    (change_is (operator_of f) c.args.changes.now c.requires.plain c.loop-change.change-index _ c.loop-change-test.true) (iff_not c.sets_beside.ensures c.if-sets_beside.false))

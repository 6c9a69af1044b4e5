-- The first failure is the lowest effect that may set another fact, else the first fact that may
-- remain. Without either the effect would keep the group.
use Rattle.sas_mutex.proofs.Imports.{◌<◌, ◌≤◌, length, inl, inr, subst, cases_lt, group_at}
use Rattle.sas_mutex.proofs.FirstOfEffect.{no_other, two_first, stay_first, keeps_group}
use Rattle.sas_mutex.proofs.failures.failure_by_notes.Goals as goal

pub returns-then-other-effects-clause-first : goal.returns-then-other-effects-clause-first
returns-then-other-effects-clause-first g c =
    let lowest = rw (← c.firing.view_is) at c.lowest_together-other.ensures.lowest in
    let has = rw (← c.firing.view_is) at c.requires.has in
    let other = c.lowest_together-other.result in
    rw (← c.firing.view_is) (two_first _ c.args.kept.now c.args.group c.firing.invariant.3 has other lowest
    (subst (λ n. other < n) c.effects.ensures c.if-other-effects.true))

pub returns-clause-first : goal.returns-clause-first
returns-clause-first g c =
    let lowest = rw (← c.firing.view_is) at c.lowest_together-other.ensures.lowest in
    let has = rw (← c.firing.view_is) at c.requires.has in
    let first = rw (← c.firing.view_is) at c.first_staying-place.ensures in
    let broken = rw (← c.firing.view_is) at c.requires.broken in
    let other = c.lowest_together-other.result in
    let place = c.first_staying-place.result in
    let single = no_other _ c.args.kept.now c.args.group other lowest (subst (λ n. n ≤ other) c.effects.ensures c.if-other-effects.false) in
    rw (← c.firing.view_is) (elim (cases_lt place (length (group_at c.firing.inside.task.now c.args.group))) [
      | inl lt ↦ stay_first _ c.args.kept.now c.args.group c.firing.invariant.3 has place single first lt
      | inr past ↦ absurd (broken (keeps_group _ c.args.kept.now c.args.group place single first past))
    ])

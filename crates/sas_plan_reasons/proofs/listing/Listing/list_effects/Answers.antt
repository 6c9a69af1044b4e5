-- The variable of one more effect is listed.
use Rattle.sas_plan_reasons.proofs.Imports.{◌≡◌, ℕ, ◌+◌, ◌<◌, length, sym, ap, subst, inl, inr, ◌∙◌, [], ◌∷◌, arith, cases_eq, length-append, All-push, Contains, Contains-append_left, Contains-push, Change, operator_at, effect_at, effect_within}
use Rattle.sas_plan_reasons.proofs.listing.Listing.list_effects.Goals as goal

pub loop-effect-preserved : goal.loop-effect-preserved
loop-effect-preserved g c =
    let p = c.args.task.now in
    let o = operator_at p c.args.operator in
    let inv = c.loop-effect.invariant in
    let old = c.loop-effect.self.vars.items in
    let effect = c.loop-effect.effect in
    let var = c.effect_change.result.var in
    let within : effect < length o.effects = omega (arith, c.loop-effect-test.true, rw c.task-task.ensures.task at c.effects-effect-end.ensures) in
    let items = rw c.unwrap.ensures at c.push.ensures.items in
    let is : var ≡ (effect_at o effect).var = ap (λ (change : Change). change.var) (rw c.task-task.ensures.task at c.effect_change.ensures) in
    record {
      list = record { few = inv.list.few; room = omega (arith, inv.list.room, c.push.ensures.capacity) };
      many = ap length items ∙ (length-append old (var ∷ []) ∙ ap (λ n. n + 1) inv.many);
      exist = rw items (All-push (λ (v : ℕ). v < length p.variables) old var inv.exist (rw is (effect_within p c.task-task.ensures.well_ranged c.args.operator c.requires.operator effect within)));
      each = λ k lt. rw items (elim (cases_eq k effect) [
        | inl same ↦ subst (Contains _) (is ∙ ap (λ n. (effect_at o n).var) (sym same)) (Contains-push old var)
        | inr other ↦ Contains-append_left old (var ∷ []) (effect_at o k).var (inv.each k (omega (arith, lt)))
      ]);
    }

-- One more effect without conditions was looked at. Its known facts are the recorded ones.
use Rattle.sas_mutex.proofs.Imports.{iff_not, ◌≡◌, length, sym, subst, inl, inr, arith, and_parts, cases_eq, ◌<◌, IsUnconditional, EffectPlace, operator_of}
use Rattle.sas_mutex.proofs.LookedAt.{looked_then, looked_by, alike_at_effect}
use Rattle.sas_mutex.proofs.looking.Keeping.look_at_noted.Goals as goal
use Rattle.sas_mutex.proofs.looking.Keeping.look_at_noted.Goals.{then-is_plain, else-is_plain}

pub loop-effect-preserved : goal.loop-effect-preserved
loop-effect-preserved g c =
    let at = c.loop-effect.effect in
    let inv = rw (← c.firing.view_is) at c.loop-effect.invariant in
    rw (← c.firing.view_is) (elim c.if-is_plain.branch [
      | then-is_plain w ↦
          (let turn = rw w.new-alike.ensures at w.look_at_groups-alone.ensures in
          rw (w.self-is, w.alone-is) record {
            looked = looked_then inv.looked turn.looked
                (λ effect place (lt, plain). elim (cases_eq effect at) [
                  | inl same ↦ inr same
                  | inr ne ↦ inl (omega arith, plain)
                ])
                (and_parts c.loop-effect.alone w.look_at_groups-alone.result);
            at_effect = alike_at_effect c.firing.inside.task.now c.firing.inside.operator at c.firing.inside.effect w.look_at_groups-alone.new.self
                (c.is_plain-in-loop-effect.ensures.0 w.if-is_plain.true) (c.is_plain.ensures.0 c.if-not-is_plain.false) turn.at_effect;
          })
      | else-is_plain w ↦ rw (w.self-is, w.alone-is) record {
        looked = looked_by inv.looked
            (λ effect place (lt, plain). elim (cases_eq effect at) [
              | inl same ↦ absurd (iff_not c.is_plain-in-loop-effect.ensures w.if-is_plain.false
                  (subst (IsUnconditional c.firing.inside.task.now c.firing.inside.operator) same plain))
              | inr ne ↦ (omega arith, plain)
            ]) (λ t. inl t);
        at_effect = inv.at_effect;
      }
    ])

pub returns-then-not-is_plain-clause-looked : goal.returns-then-not-is_plain-clause-looked
returns-then-not-is_plain-clause-looked g c = looked_by c.look_at_groups.ensures.looked (λ effect place pair. elim pair [
  | inl is ↦ is
  | inr w ↦ absurd (iff_not c.is_plain.ensures c.if-not-is_plain.true (subst (λ (s : EffectPlace). IsUnconditional s.task s.operator s.effect) (sym c.firing.view_is) w.0))
]) (λ t. inl t)

pub returns-clause-looked : goal.returns-clause-looked
returns-clause-looked g c =
    let below = subst (λ (s : EffectPlace). s.effect < length (operator_of s).effects) c.firing.view_is c.firing.invariant.3 in
    let plain = subst (λ (s : EffectPlace). IsUnconditional s.task s.operator s.effect) c.firing.view_is (c.is_plain.ensures.0 c.if-not-is_plain.false) in
    let count = subst (λ (s : EffectPlace). c.effects-effect-end.result ≡ length (operator_of s).effects) c.firing.view_is c.effects-effect-end.ensures in
    looked_by c.loop-effect.invariant.looked (λ effect place pair. elim pair [
      | inl is ↦ rw is (omega (arith, below, count, c.loop-effect-test.false), plain)
      | inr w ↦ (omega (arith, w.1.0, count, c.loop-effect-test.false), w.1.1)
    ]) (λ t. inl t)

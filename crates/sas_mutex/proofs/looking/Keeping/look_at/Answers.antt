-- One more effect was looked at. One without conditions stands for all such effects.
use Rattle.sas_mutex.proofs.Imports.{ℕ, Bool, true, List, ◌+◌, ◌<◌, ◌⊎◌, ◌≡◌, length, refl, sym, subst, operator_at, SetsNone, inl, inr, arith, and_parts, false, ◌||◌, cases_eq, Parts, common_steps, IsIdle, Looked, EffectPlace, IsOfAlike, IsOfEffect, IsOfUnconditional}
use Rattle.sas_mutex.proofs.LookedAt.{looked_unset, looked_then, looked_by}
use Rattle.sas_mutex.proofs.looking.Keeping.look_at.Goals as goal
use Rattle.sas_mutex.proofs.looking.Keeping.look_at.Goals.{then-sets_one_of, else-sets_one_of}

one_is : (a b : Bool) → (a || b) ≡ true → (a ≡ true) ⊎ (b ≡ true)
one_is true b is = inl refl
one_is false b is = inr is

pub effects-effect-end-requires : goal.effects-effect-end-requires
effects-effect-end-requires g c = subst (λ (p : Parts). c.args.operator < length p.operators) (sym c.indexed.view_is) c.requires.operator

pub is_plain-plain-requires-clause-effect : goal.is_plain-plain-requires-clause-effect
is_plain-plain-requires-clause-effect g c = search (arith, length, operator_at, true)

pub look_at_alike-alone-requires : goal.look_at_alike-alone-requires
look_at_alike-alone-requires g c = subst (λ (f : EffectPlace). IsIdle f.task c.loop-effect.self) (sym c.new-firing.ensures) c.loop-effect.invariant.idle

pub loop-effect-init : goal.loop-effect-init
loop-effect-init g c = grind (arith, common_steps, looked_by)

-- it has no conditions, and another such effect was looked at
pub loop-effect-preserved-then-plain : goal.loop-effect-preserved-then-plain
loop-effect-preserved-then-plain g c =
    let p = c.args.indexed.now in
    let operator = c.args.operator in
    let at = c.loop-effect.effect in
    let below = subst (λ (q : Parts). at < length (operator_at q operator).effects) c.indexed.view_is
    (subst (λ n. at < n) c.effects-effect-end.ensures c.loop-effect-test.true) in
    record {
      looked = looked_by c.loop-effect.invariant.looked
          (λ effect place pair. elim pair [
            | inl lt ↦ elim (cases_eq effect at) [
              | inl same ↦ inr (c.if-did_plain.true, subst (λ n. IsOfUnconditional p operator n place) (sym same) (below, c.is_plain-plain.ensures.0 c.if-plain.true))
              | inr ne ↦ inl (omega arith)
            ]
            | inr plain ↦ inr plain
          ]) (λ t. inl t);
      idle = c.loop-effect.invariant.idle;
    }

pub loop-effect-preserved : goal.loop-effect-preserved
loop-effect-preserved g c =
    let p = c.args.indexed.now in
    let operator = c.args.operator in
    let before = c.loop-effect.self.family in
    let at = c.loop-effect.effect in
    let inv = c.loop-effect.invariant in
    let earlier : (effect place : ℕ) → effect < at + 1 → ((effect < at) ⊎ ((c.loop-effect.did_plain ≡ true) × IsOfUnconditional p operator effect place)) ⊎ IsOfEffect at effect place
    = λ effect place lt. elim (cases_eq effect at) [
      | inl same ↦ inr same
      | inr ne ↦ inl (inl (omega arith))
    ] in
    elim c.if-sets_one_of.branch [
      | then-sets_one_of w ↦
          (let turn = w.look_at_alike-alone in
          let looked = subst (λ (f : EffectPlace). Looked f.task f.operator (IsOfAlike f) before turn.new.self.family turn.result) c.new-firing.ensures turn.ensures.looked in
          rw (w.self-is, w.alone-is, w.did_plain-is) record {
            looked = looked_then inv.looked looked
                (λ effect place pair. elim pair [
                  | inl lt ↦ elim (earlier effect place lt) [
                    | inl early ↦ inl early
                    | inr same ↦ inr (inl same)
                  ]
                  | inr (did, of) ↦ elim (one_is _ _ did) [
                    | inl before ↦ inl (inr (before, of))
                    | inr now ↦ inr (inr (c.is_plain-plain.ensures.0 now, of))
                  ]
                ])
                (and_parts c.loop-effect.alone turn.result);
            idle = subst (λ (f : EffectPlace). IsIdle f.task turn.new.self) c.new-firing.ensures turn.ensures.idle;
          })
      | else-sets_one_of w ↦
          (let none = subst (λ (kept : List Bool). SetsNone p kept operator at) c.as_slice.ensures
          (subst (λ (f : EffectPlace). SetsNone f.task c.as_slice.result.now f.operator f.effect) c.new-firing.ensures (c.sets_one_of.ensures w.if-sets_one_of.false)) in
          rw (w.self-is, w.alone-is, w.did_plain-is) record {
            looked = looked_then inv.looked (looked_unset at none)
                (λ effect place pair. elim pair [
                  | inl lt ↦ earlier effect place lt
                  | inr plain ↦ inl (inr plain)
                ])
                (λ t. (t, refl));
            idle = inv.idle;
          })
    ]

pub returns-clause-looked : goal.returns-clause-looked
returns-clause-looked g c = grind (arith, common_steps, looked_by)

-- Effects that fire agree, or two of them conflict. The reported pair is unique.
use Rattle.std.proofs.Common.{rules}
use Rattle.std.proofs.lemmas.Grind.{common_steps}
use Rattle.sas_plan_reasons.proofs.Imports.{AreLowest, ◌≡◌, ℕ, ◌<◌, ◌⊎◌, List, [], length, None, slice_index, inl, inr, arith, cases_eq, cases_lt, cases_order, get_or_default, Effect, Operator, effect_at, Fires, Agree, hold_or_not, ConflictsWith}
use Rattle.sas_plan_reasons.proofs.Lowest.{are_lowest_one, some_are_lowest}

module _ (s : List ℕ) (o : Operator) where
  contradicts_or_not : (e d : ℕ) → ConflictsWith s o e d ⊎ (ConflictsWith s o e d → ⊥)
  contradicts_or_not e d = elim (cases_lt d e) [
    | inr ge ↦ inr (λ c. let lt = c.before in omega arith)
    | inl before ↦ elim (cases_lt e (length o.effects)) [
      | inr ge ↦ inr (λ c. let lt = c.exists in omega arith)
      | inl exists ↦ elim (hold_or_not (slice_index s) (effect_at o d).conditions) [
        | inr n ↦ inr (λ c. n c.fires)
        | inl fires ↦ elim (hold_or_not (slice_index s) (effect_at o e).conditions) [
          | inr n ↦ inr (λ c. n c.fires')
          | inl fires' ↦ elim (cases_eq (effect_at o d).var (effect_at o e).var) [
            | inr n ↦ inr (λ c. n c.var)
            | inl var ↦ elim (cases_eq (effect_at o d).new (effect_at o e).new) [
              | inl same ↦ inr (λ c. c.other same)
              | inr other ↦ inl (record { before = before; exists = exists; fires = fires; fires' = fires'; var = var; other = other })
            ]
          ]
        ]
      ]
    ]
  ]

  -- the effects agree if none is contradicted
  module _ (none : (e d : ℕ) → ConflictsWith s o e d → ⊥) where
    later_agrees : (d e : ℕ) → d < e → e < length o.effects → Fires s (effect_at o d) → Fires s (effect_at o e)
        → (effect_at o d).var ≡ (effect_at o e).var → (effect_at o d).new ≡ (effect_at o e).new
    later_agrees d e before exists fires fires' var = grind (arith, common_steps, cases_eq)

    agrees_at : (d e : ℕ) → d < length o.effects → e < length o.effects → Fires s (effect_at o d) → Fires s (effect_at o e)
        → (effect_at o d).var ≡ (effect_at o e).var → (effect_at o d).new ≡ (effect_at o e).new
    agrees_at d e lt lt' fires fires' var = grind (arith, common_steps, cases_order, later_agrees)

    no_effect : Effect
    no_effect = record { conditions = []; var = 0; old = None; new = 0 }

    agrees : Agree s o.effects
    unfolding no_effect
    agrees i x lt j y lt' = search (rules, arith, get_or_default, no_effect, agrees_at)

pub some_conflict : (s : List ℕ) (o : Operator) → (Agree s o.effects → ⊥) → (e d : ℕ) × AreLowest (ConflictsWith s o) e d
some_conflict s o clash = elim (some_are_lowest (ConflictsWith s o) (contradicts_or_not s o) (length o.effects) (length o.effects) (λ e d c. (c.exists, let lt = c.exists in let before = c.before in omega arith))) [
  | inl w ↦ w
  | inr none ↦ absurd (clash (agrees s o none))
]

pub one_conflict : (s : List ℕ) (o : Operator) (e d e' d' : ℕ) → AreLowest (ConflictsWith s o) e d → AreLowest (ConflictsWith s o) e' d' → (e ≡ e') × (d ≡ d')
one_conflict s o = are_lowest_one (ConflictsWith s o)

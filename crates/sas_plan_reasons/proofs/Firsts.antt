-- The first effects that fire on the variables, one effect more.
use Rattle.std.proofs.lemmas.Grind.{common_steps}
use Rattle.sas_plan_reasons.proofs.Imports.{◌≡◌, ◌≢◌, ℕ, ◌+◌, ◌<◌, ◌≤◌, List, length, set, Option, None, Some, refl, sym, ◌∙◌, ap, subst, inl, inr, arith, cases_eq, get_or-set_same, get_or-set_other, length-set, Operator, Parts, effect_at, Agree, not_both, IsLowest, AreLowest, ConflictsWith, same_Some, first_on, AgreesWithFirst, AreFirstEffects}
use Rattle.sas_plan_reasons.proofs.SomeConflict.{some_conflict}
use Rattle.sas_meaning.specs.Steps.{Fires}

module _ (p : Parts) (s : List ℕ) (o : Operator) where
  pub no_firsts : (firsts : List (Option ℕ)) → length firsts ≡ length p.variables → ((var : ℕ) → first_on firsts var ≡ None) → AreFirstEffects p s o 0 firsts
  no_firsts firsts one_each none = grind (arith, common_steps, not_both)

  module _ (n : ℕ) (firsts : List (Option ℕ)) (are : AreFirstEffects p s o n firsts) where
    -- one more effect that isn't the first on its variable
    no_first : (Fires s (effect_at o n) → (first : ℕ) × AgreesWithFirst firsts o n first) → AreFirstEffects p s o (n + 1) firsts
    no_first its = record {
      one_each = are.one_each;
      each = λ effect lt fires. elim (cases_eq effect n) [
        | inl e ↦ subst (λ k. (first : ℕ) × AgreesWithFirst firsts o k first) (sym e) (its (subst (λ k. Fires s (effect_at o k)) e fires))
        | inr ne ↦ are.each effect (omega arith) fires
      ];
      only = λ var first is. (let w = are.only var first is in (omega (arith, w.0), w.1, w.2));
    }

    -- one more that doesn't fire
    pub quiet : (Fires s (effect_at o n) → ⊥) → AreFirstEffects p s o (n + 1) firsts
    quiet silent = no_first (λ fires. absurd (silent fires))

    -- one more that fires and agrees
    pub again : (first : ℕ) → first_on firsts (effect_at o n).var ≡ Some first → (effect_at o first).new ≡ (effect_at o n).new → AreFirstEffects p s o (n + 1) firsts
    again first is same = no_first (λ _. (first, record { is = is; no_later = omega (arith, (are.only (effect_at o n).var first is).0); same = same }))

    -- one more that is the first on its variable
    pub first_here : (effect_at o n).var < length p.variables → Fires s (effect_at o n) → first_on firsts (effect_at o n).var ≡ None
        → AreFirstEffects p s o (n + 1) (set firsts (effect_at o n).var (Some n))
    first_here within fires none = record {
      one_each = length-set firsts (effect_at o n).var (Some n) ∙ are.one_each;
      each = each;
      only = only;
    }
      where
        now : List (Option ℕ)
        now = set firsts (effect_at o n).var (Some n)

        at_n : first_on now (effect_at o n).var ≡ Some n
        at_n = get_or-set_same firsts (effect_at o n).var (Some n) None (omega (arith, are.one_each, within))

        elsewhere : (var : ℕ) → var ≢ (effect_at o n).var → first_on now var ≡ first_on firsts var
        elsewhere var ne = get_or-set_other firsts (effect_at o n).var var (Some n) None ne

        each : (effect : ℕ) → effect < n + 1 → Fires s (effect_at o effect) → (first : ℕ) × AgreesWithFirst now o effect first
        each effect lt fires' = elim (cases_eq effect n) [
          | inl e ↦ (n, subst (λ k. AgreesWithFirst now o k n) (sym e) (record { is = at_n; no_later = omega arith; same = refl }))
          | inr ne ↦ (let w = are.each effect (omega arith) fires' in (
            w.0,
            record {
              is = elsewhere (effect_at o effect).var (λ e. not_both w.0 (first_on firsts (effect_at o n).var) none (ap (first_on firsts) (sym e) ∙ w.1.is)) ∙ w.1.is;
              no_later = w.1.no_later;
              same = w.1.same;
            },
          ))
        ]

        only : (var first : ℕ) → first_on now var ≡ Some first → (first < n + 1) × Fires s (effect_at o first) × ((effect_at o first).var ≡ var)
        only var first is = elim (cases_eq var (effect_at o n).var) [
          | inl e ↦ (let same : n ≡ first = same_Some n first (sym at_n ∙ (ap (first_on now) (sym e) ∙ is)) in
              (omega arith, subst (λ k. Fires s (effect_at o k)) same fires, ap (λ k. (effect_at o k).var) (sym same) ∙ sym e))
          | inr ne ↦ (let w = are.only var first (sym (elsewhere var ne) ∙ is) in (omega (arith, w.0), w.1, w.2))
        ]

    -- one more that fires and doesn't agree is contradicted
    pub contradicted : n < length o.effects → Fires s (effect_at o n) → (first : ℕ) → first_on firsts (effect_at o n).var ≡ Some first
        → (effect_at o first).new ≢ (effect_at o n).new → IsLowest (ConflictsWith s o n) first
    contradicted exists fires first is other = grind (arith, effect_at, same_Some, first_on)

    -- none before it is
    pub none_before : (e : ℕ) → e < n → (d : ℕ) × ConflictsWith s o e d → ⊥
    none_before e lt (d, c) =
        let a = are.each e lt c.fires' in
        let b = are.each d (let less = c.before in omega arith) c.fires in
        c.other (sym b.1.same ∙ (ap (λ k. (effect_at o k).new) (same_Some b.0 a.0 (sym b.1.is ∙ (ap (first_on firsts) c.var ∙ a.1.is))) ∙ a.1.same))

    pub is_conflict : (d : ℕ) → IsLowest (ConflictsWith s o n) d → AreLowest (ConflictsWith s o) n d
    is_conflict d lowest = record { first = record { has = (d, lowest.has); first = none_before }; lowest = lowest }

    -- if there is no more effect, they agree
    pub agree : length o.effects ≤ n → (Agree s o.effects → ⊥) → ⊥
    agree all clash = let w = some_conflict s o clash in
        let c = w.2.first.has.1 in
        none_before w.0 (let lt = c.exists in omega arith) w.2.first.has

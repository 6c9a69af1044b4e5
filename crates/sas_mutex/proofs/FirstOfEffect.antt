-- The first failure of one effect, from the lowest effect that may set another fact and the first
-- fact that may remain.
use Rattle.sas_mutex.proofs.Imports.{◌≡◌, ℕ, ◌<◌, ◌≤◌, Bool, List, length, get_or, Some, refl, sym, ap, subst, inl, inr, arith, slice_get-get_or, get_or_from_slice_get, slice_get_within, Contains, slice_get, Fact, effect_at, group_at, sets, IsKept, EffectPlace, operator_of, NotBothAt, IsGoneAt, EffectKeepsGroup, Failure, SetsTwo, MayStay, IsFailure, IsEarlier, effect_of_failure, IsLowestPartner, IsAny, IsFirstStaying, IsFirstOfEffect}
use Rattle.sas_mutex.proofs.Least.{item_at, stands_at}
use Rattle.sas_mutex.proofs.Failing.{two_fails, stay_fails}

-- ---- the first fact that may stay

module _ (f : EffectPlace) (kept : List Bool) (facts group : List Fact) (same : facts ≡ group) where
  pub none_stays : ((x : Fact) → Contains group x → IsGoneAt f kept x) → IsFirstStaying f kept group (length facts)
  none_stays gone = grind (arith, length, slice_get_within, item_at)

  pub one_stays : (n : ℕ) (d : Fact) → n < length facts → ((k : ℕ) (d : Fact) → k < n → IsGoneAt f kept (get_or facts k d))
      → (IsGoneAt f kept (get_or facts n d) → ⊥) → IsFirstStaying f kept group n
  one_stays n d within before stays = record {
    within = let len = ap length same in omega arith;
    stays = λ fact here gone. stays (subst (IsGoneAt f kept) (sym (read n fact d here)) gone);
    below = λ lower fact lt here. subst (IsGoneAt f kept) (read lower fact fact here) (before lower fact lt);
  }
    where
      read : (k : ℕ) (fact d : Fact) → slice_get group k ≡ Some fact → get_or facts k d ≡ fact
      read k fact d here = get_or_from_slice_get facts k fact d (subst (λ (xs : List Fact). slice_get xs k ≡ Some fact) (sym same) here)

-- ---- the first failure

module _ (f : EffectPlace) (kept : List Bool) (place : ℕ) where
  -- where none is lower than the number of all, none may
  pub no_other : (n : ℕ) → IsLowestPartner f kept place IsAny n → length (operator_of f).effects ≤ n
      → (other : ℕ) → other < length (operator_of f).effects → NotBothAt f kept other place
  no_other n lowest all other lt = lowest.below other (omega arith) tt

  module _ (exists : f.effect < length (operator_of f).effects) (has : Contains (group_at f.task place) (sets (effect_at (operator_of f) f.effect))) where
    pub two_first : (other : ℕ) → IsLowestPartner f kept place IsAny other → other < length (operator_of f).effects
        → IsFirstOfEffect (IsKept f.task kept) (operator_of f) (group_at f.task place) f.effect (SetsTwo f.effect other)
    two_first other lowest lt = record {
      of = refl;
      fails = two_fails (IsKept f.task kept) (operator_of f) (group_at f.task place) f.effect other exists lt has (lowest.may lt);
      first = earlier;
    }
      where
        earlier : (x : Failure) → effect_of_failure x ≡ f.effect → IsEarlier x (SetsTwo f.effect other) → IsFailure (IsKept f.task kept) (operator_of f) (group_at f.task place) x → ⊥
        earlier (SetsTwo effect other') same (inl before) fails = absurd (omega (arith, same, before))
        earlier (SetsTwo effect other') same (inr (is, lower)) fails =
            let it = subst (λ n. IsFailure (IsKept f.task kept) (operator_of f) (group_at f.task place) (SetsTwo n other')) same fails in
            it.2.no_clash (lowest.below other' lower tt it.2.sets_other it.2.differ)
        earlier (MayStay effect place') same before fails = absurd (omega (arith, same, before))

    pub stay_first : (n : ℕ) → ((other : ℕ) → other < length (operator_of f).effects → NotBothAt f kept other place)
        → IsFirstStaying f kept (group_at f.task place) n → n < length (group_at f.task place)
        → IsFirstOfEffect (IsKept f.task kept) (operator_of f) (group_at f.task place) f.effect (MayStay f.effect n)
    stay_first n single first lt = record {
      of = refl;
      fails = stay_fails (IsKept f.task kept) (operator_of f) (group_at f.task place) f.effect n (get_or (group_at f.task place) n d) exists has here (first.stays (get_or (group_at f.task place) n d) here);
      first = earlier;
    }
      where
        d : Fact
        d = record { var = 0; value = 0 }

        here : slice_get (group_at f.task place) n ≡ Some (get_or (group_at f.task place) n d)
        here = slice_get-get_or (group_at f.task place) n d lt

        earlier : (x : Failure) → effect_of_failure x ≡ f.effect → IsEarlier x (MayStay f.effect n) → IsFailure (IsKept f.task kept) (operator_of f) (group_at f.task place) x → ⊥
        earlier (SetsTwo effect other') same before fails =
            let it = subst (λ m. IsFailure (IsKept f.task kept) (operator_of f) (group_at f.task place) (SetsTwo m other')) same fails in
            it.2.no_clash (single other' it.1 it.2.sets_other it.2.differ)
        earlier (MayStay effect place') same (inl before) fails = absurd (omega (arith, same, before))
        earlier (MayStay effect place') same (inr (is, lower)) fails =
            let it = subst (λ m. IsFailure (IsKept f.task kept) (operator_of f) (group_at f.task place) (MayStay m place')) same fails in
            elim (first.below place' it.1 lower it.2 it.3.differ) [
              | inl clash ↦ it.3.no_clash clash
              | inr removed ↦ it.3.stays removed
            ]

  pub keeps_group : (n : ℕ) → ((other : ℕ) → other < length (operator_of f).effects → NotBothAt f kept other place)
      → IsFirstStaying f kept (group_at f.task place) n → length (group_at f.task place) ≤ n → EffectKeepsGroup f kept place
  keeps_group n single first all = record {
    single = single;
    others = λ x among. first.below among.0 x (let lt = among.1 in omega arith) (stands_at (group_at f.task place) x among);
  }

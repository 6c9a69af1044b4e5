-- An operator doesn't keep a group if and only if it has a failure. Then it has exactly one
-- first failure.
use Rattle.std.proofs.lemmas.Grind.{common_steps}
use Rattle.sas_mutex.proofs.Imports.{◌≡◌, ℕ, ◌<◌, ◌≤◌, ◌⊎◌, List, [], ◌∷◌, length, Some, refl, ◌∙◌, ap, subst, inl, inr, arith, cases_eq, cases_lt, cases_order, slice_get-get_or, Contains, slice_get, Fact, Operator, effect_at, Keeps, sets, NotBoth, IsGone, known, clash_more, EffectKeeps, keeps_from_effects, effect_of_keeps, Failure, SetsTwo, MayStay, IsFailure, IsEarlier, IsFirstFailure, effect_of_failure, IsFirstOfEffect}
use Rattle.sas_mutex.proofs.Least.{all_below, IsLeast, none_at_all, has_or_not, item_at}

-- a failure that comes before another is of no later effect
no_later : (a b : Failure) → IsEarlier a b → effect_of_failure a ≤ effect_of_failure b
no_later h1 h2 before = grind arith

module _ (Counts : List Fact → Type 0) (o : Operator) (group : List Fact) where
  -- ---- what is kept doesn't fail

  -- an effect that keeps the group has no failure
  pub kept_never_fails : (failure : Failure) → EffectKeeps Counts o group (effect_at o (effect_of_failure failure)) → IsFailure Counts o group failure → ⊥
  kept_never_fails h1 keeps h2 = grind (arith, item_at)

  -- the effect of a failure exists, and sets a fact of the group
  effect_exists : (failure : Failure) → IsFailure Counts o group failure → effect_of_failure failure < length o.effects
  effect_exists h1 fails = grind arith

  pub sets_one : (failure : Failure) → IsFailure Counts o group failure → Contains group (sets (effect_at o (effect_of_failure failure)))
  sets_one (SetsTwo effect other) (exists, within, two) = two.sets_one
  sets_one (MayStay effect place) (exists, fact, here, lets) = lets.sets_one

  pub fails_not_kept : (failure : Failure) → IsFailure Counts o group failure → Keeps Counts o group → ⊥
  fails_not_kept failure fails keeps = kept_never_fails failure
      (effect_of_keeps Counts o group keeps (effect_of_failure failure) (effect_exists failure fails) (sets_one failure fails)) fails

  -- ---- what isn't kept fails

  -- effects that may set two facts of the group
  pub two_fails : (effect other : ℕ) → effect < length o.effects → other < length o.effects → Contains group (sets (effect_at o effect))
      → (NotBoth Counts o group (effect_at o effect) (effect_at o other) → ⊥) → IsFailure Counts o group (SetsTwo effect other)
  two_fails effect other lt lt' has may = elim (has_or_not group (sets (effect_at o other))) [
    | inl has' ↦ (lt, lt', record { sets_one = has; sets_other = has'; differ = λ same. may (λ h ne. absurd (ne same)); no_clash = λ clash. may (λ h ne. clash) })
    | inr none ↦ absurd (may (λ h ne. absurd (none h)))
  ]

  -- a fact that may stay
  pub stay_fails : (effect place : ℕ) (fact : Fact) → effect < length o.effects → Contains group (sets (effect_at o effect)) → slice_get group place ≡ Some fact
      → (IsGone Counts o (effect_at o effect) fact → ⊥) → IsFailure Counts o group (MayStay effect place)
  stay_fails effect place fact lt has here stays = grind (arith, sets_one)

  module _ (none : (failure : Failure) → IsFailure Counts o group failure → ⊥) where
    -- then an effect that sets a fact of the group can't but keep it
    effect_keeps : (effect : ℕ) → effect < length o.effects → Contains group (sets (effect_at o effect))
        → (EffectKeeps Counts o group (effect_at o effect) → ⊥) → ⊥
    effect_keeps effect lt has not =
        all_below (length o.effects) (λ other. NotBoth Counts o group (effect_at o effect) (effect_at o other))
        (λ other lt' may. none (SetsTwo effect other) (two_fails effect other lt lt' has may))
        (λ single. all_below (length group) (λ place. (fact : Fact) → slice_get group place ≡ Some fact → IsGone Counts o (effect_at o effect) fact)
        (λ place within stays. stays (λ fact here ne. absurd (none (MayStay effect place) (later place fact here stays))))
        (λ gone. not (record {
          single = single;
          others = λ f among. gone among.0 among.1 f (slice_get-get_or group among.0 f among.1 ∙ ap (λ (y : Fact). Some y) among.2);
        })))
      where
        later : (place : ℕ) (fact : Fact) → slice_get group place ≡ Some fact
            → (((f : Fact) → slice_get group place ≡ Some f → IsGone Counts o (effect_at o effect) f) → ⊥) → IsFailure Counts o group (MayStay effect place)
        later place fact here stays = stay_fails effect place fact lt has here (λ gone. stays (λ f here'.
            subst (λ (x : Fact). IsGone Counts o (effect_at o effect) x) (same here here') gone))
          where
            same : {f : Fact} → slice_get group place ≡ Some fact → slice_get group place ≡ Some f → fact ≡ f
            same h h' = cc

    all_keep : (Keeps Counts o group → ⊥) → ⊥
    all_keep not = all_below (length o.effects) (λ effect. Contains group (sets (effect_at o effect)) → EffectKeeps Counts o group (effect_at o effect))
        (λ effect lt not_kept. elim (has_or_not group (sets (effect_at o effect))) [
          | inl has ↦ effect_keeps effect lt has (λ keeps. not_kept (λ h. keeps))
          | inr has_not ↦ not_kept (λ h. absurd (has_not h))
        ])
        (λ each. not (keeps_from_effects Counts o group each))

  -- ---- the first failure

  -- failures of one effect are those with another effect and those with a fact
  abbrev Of : ℕ → Type 0
  Of effect = (failure : Failure) × (effect_of_failure failure ≡ effect) × IsFailure Counts o group failure

  module _ (no_first : (failure : Failure) → IsFirstFailure Counts o group failure → ⊥) where
    module _ (effect : ℕ) (none_below : (lower : ℕ) → lower < effect → Of lower → ⊥) where
      -- of this effect, as of those below, there is none with another effect
      no_two : (n : ℕ) → n ≡ effect → (other : ℕ) → IsFailure Counts o group (SetsTwo n other) → ⊥
      no_two n is = none_at_all (λ other. IsFailure Counts o group (SetsTwo n other)) (λ other least.
          no_first (SetsTwo n other) (record { fails = least.has; first = λ x before fails. earlier other least x before fails }))
        where
          earlier : (other : ℕ) → IsLeast (λ other. IsFailure Counts o group (SetsTwo n other)) other → (x : Failure) → IsEarlier x (SetsTwo n other)
              → IsFailure Counts o group x → ⊥
          earlier other least (SetsTwo n' other') (inl lower) fails = none_below n' (omega (arith, lower, is)) (SetsTwo n' other', refl, fails)
          earlier other least (SetsTwo n' other') (inr (same, lt)) fails =
              least.none_below other' lt (subst (λ m. IsFailure Counts o group (SetsTwo m other')) same fails)
          earlier other least (MayStay n' place) lower fails = none_below n' (omega (arith, lower, is)) (MayStay n' place, refl, fails)

      -- and none with a fact
      no_stay : (n : ℕ) → n ≡ effect → (place : ℕ) → IsFailure Counts o group (MayStay n place) → ⊥
      no_stay n is = none_at_all (λ place. IsFailure Counts o group (MayStay n place)) (λ place least.
          no_first (MayStay n place) (record { fails = least.has; first = λ x before fails. earlier place least x before fails }))
        where
          earlier : (place : ℕ) → IsLeast (λ place. IsFailure Counts o group (MayStay n place)) place → (x : Failure) → IsEarlier x (MayStay n place)
              → IsFailure Counts o group x → ⊥
          earlier place least (SetsTwo n' other) no_later fails = elim (cases_lt n' effect) [
            | inl lower ↦ none_below n' lower (SetsTwo n' other, refl, fails)
            | inr past ↦ no_two n' (omega (arith, no_later, past, is)) other fails
          ]
          earlier place least (MayStay n' place') (inl lower) fails = none_below n' (omega (arith, lower, is)) (MayStay n' place', refl, fails)
          earlier place least (MayStay n' place') (inr (same, lt)) fails =
              least.none_below place' lt (subst (λ m. IsFailure Counts o group (MayStay m place')) same fails)

      none_of : (failure : Failure) → effect_of_failure failure ≡ effect → IsFailure Counts o group failure → ⊥
      none_of (SetsTwo n other) is fails = no_two n is other fails
      none_of (MayStay n place) is fails = no_stay n is place fails

    none_fails : (failure : Failure) → IsFailure Counts o group failure → ⊥
    none_fails failure fails = none_at_all Of (λ effect least. none_of effect least.none_below least.has.0 least.has.1 least.has.2)
        (effect_of_failure failure) (failure, refl, fails)

  -- the first one of its effect is the first one of all where the effects below have none
  pub first_of_all : (effect : ℕ) (failure : Failure) → IsFirstOfEffect Counts o group effect failure
      → ((other : Failure) → effect_of_failure other < effect → IsFailure Counts o group other → ⊥) → IsFirstFailure Counts o group failure
  first_of_all effect failure first none = grind (arith, common_steps, cases_eq, no_later)

  -- an operator that doesn't keep the group can't be without a failure, nor without a first one
  pub some_failure : (Keeps Counts o group → ⊥) → ((failure : Failure) → IsFailure Counts o group failure → ⊥) → ⊥
  some_failure not none = all_keep none not

  pub some_first : (Keeps Counts o group → ⊥) → ((failure : Failure) → IsFirstFailure Counts o group failure → ⊥) → ⊥
  some_first not no_first = all_keep (none_fails no_first) not

-- ---- one comes before the other

compare : (a b : Failure) → (a ≡ b) ⊎ (IsEarlier a b ⊎ IsEarlier b a)
compare h1 h2 = grind (arith, cases_order, cases_lt)

pub one_first : (Counts : List Fact → Type 0) (o : Operator) (group : List Fact) (a b : Failure)
    → IsFirstFailure Counts o group a → IsFirstFailure Counts o group b → a ≡ b
one_first Counts o group a b first first' = grind (arith, common_steps, compare)

-- ---- where the same groups count, the same failures are there

module _ (Counts Others : List Fact → Type 0) (o : Operator) (group : List Fact) (fewer : (g : List Fact) → Others g → Counts g) where
  pub fails_too : (failure : Failure) → IsFailure Counts o group failure → IsFailure Others o group failure
  fails_too (SetsTwo effect other) (exists, within, two) = (
    exists,
    within,
    record {
      sets_one = two.sets_one;
      sets_other = two.sets_other;
      differ = two.differ;
      no_clash = λ clash. two.no_clash (clash_more Others Counts (known o (effect_at o effect).conditions (effect_at o other).conditions) fewer clash);
    },
  )
  fails_too (MayStay effect place) (exists, fact, here, lets) = (
    exists,
    fact,
    here,
    record {
      sets_one = lets.sets_one;
      differ = lets.differ;
      no_clash = λ clash. lets.no_clash (clash_more Others Counts (known o (effect_at o effect).conditions (fact ∷ [])) fewer clash);
      stays = lets.stays;
    },
  )

module _ (Counts Others : List Fact → Type 0) (o : Operator) (group : List Fact)
    (more : (g : List Fact) → Counts g → Others g) (fewer : (g : List Fact) → Others g → Counts g) where
  pub first_too : (failure : Failure) → IsFirstFailure Counts o group failure → IsFirstFailure Others o group failure
  first_too failure first = grind (arith, common_steps, fails_too)

  pub first_of_effect_too : (effect : ℕ) (failure : Failure) → IsFirstOfEffect Counts o group effect failure → IsFirstOfEffect Others o group effect failure
  first_of_effect_too effect failure first = grind (arith, common_steps, fails_too)

-- The values that effects give, for one more effect, and the state after they are written.
use Rattle.std.proofs.lemmas.Grind.{common_steps}
use Rattle.sas_run.proofs.Imports.{◌≡◌, ◌≢◌, ℕ, ◌+◌, ◌<◌, ◌≤◌, List, length, get_or, set, Option, None, Some, sym, ◌∙◌, ap, subst, inl, inr, arith, unwrap_or, cases_eq, get_or_default, get_or-set_same, get_or-set_other, length-set, Operator, Parts, effect_at, IsState, EffectFits, AllHold, preconditions, Fires, same_Some, given_to, value_after, NothingGiven, IsGiven, IsGivenTo, GivesValue, GivesOther, IsApplied, IsFirstConflict, no_effect}

pub not_both : (a : ℕ) (given : Option ℕ) → given ≡ None → given ≡ Some a → ⊥
not_both a given none some = let e : None ≡ Some a = sym none ∙ some in absurd cc

module _ (p : Parts) (s : List ℕ) (o : Operator) (n : ℕ) (given : List (Option ℕ)) (is : IsGiven p s o n given) where
  -- each given value is in its variable's range
  pub given_on_effects : n ≤ length o.effects → ((k : ℕ) → k < length o.effects → EffectFits p.variables (effect_at o k)) → IsGivenTo p o given
  given_on_effects within fits = grind (arith, common_steps)

  -- one more effect fires that gives another value: it is the first that conflicts
  pub conflicts_first : n < length o.effects → Fires s (effect_at o n) → (given' : List (Option ℕ)) → GivesOther given (effect_at o n).var (effect_at o n).new given' → IsFirstConflict s o n
  conflicts_first within fires given' gives_other = grind (arith, is, same_Some)

  -- one more effect that fires gives its new value
  pub gives_one_more : (effect_at o n).var < length p.variables → Fires s (effect_at o n) → (given' : List (Option ℕ)) → GivesValue given (effect_at o n).var (effect_at o n).new given'
      → IsGiven p s o (n + 1) given'
  gives_one_more within fires given' new = grind (arith, length-set, effect_at, set, given_to, get_or-set_same, get_or-set_other, cases_eq, same_Some)

  -- one more effect that doesn't fire gives nothing
  pub gives_no_more : (Fires s (effect_at o n) → ⊥) → IsGiven p s o (n + 1) given
  gives_no_more not = record {
    one_each = is.one_each;
    gives = λ k lt fires. elim (cases_eq k n) [
      | inl e ↦ absurd (not (subst (λ i. Fires s (effect_at o i)) e fires))
      | inr ne ↦ is.gives k (omega arith) fires
    ];
    giver = λ var value at.
        (let w = is.giver var value at in (w.0, (let lt = w.1 in omega arith), w.2, w.3, w.4));
  }

-- a value is given to the variable
abbrev pub HasGiven : List (Option ℕ) → ℕ → Type 0
HasGiven given var = (value : ℕ) × (given_to given var ≡ Some value)

-- the given value of one variable is removed
module _ (given : List (Option ℕ)) (v : ℕ) (within : v < length given) where
  -- so no value is given to the variables of the effects up to one on this variable
  pub one_more_taken : (o : Operator) (n : ℕ) → v ≡ (effect_at o n).var → ((k : ℕ) → k < n → given_to given (effect_at o k).var ≡ None)
      → (k : ℕ) → k < n + 1 → given_to (set given v None) (effect_at o k).var ≡ None
  one_more_taken o n on taken k lt = grind (arith, common_steps, cases_eq, get_or-set_same, get_or-set_other)

  was_given : (w value : ℕ) → given_to (set given v None) w ≡ Some value → given_to given w ≡ Some value
  was_given w value at = grind (arith, common_steps, cases_eq, get_or-set_same, get_or-set_other, not_both)

  -- so values are only given to others
  pub others_given : (w : ℕ) → HasGiven (set given v None) w → HasGiven given w × (v ≢ w)
  others_given w (value, at) = ((value, was_given w value at), λ same. not_both value (given_to (set given v None) w) (ap (given_to (set given v None)) (sym same) ∙ get_or-set_same given v None None within) at)

  pub fewer_on_effects : (p : Parts) (o : Operator) → IsGivenTo p o given → IsGivenTo p o (set given v None)
  fewer_on_effects p o on = grind (arith, common_steps, length-set, was_given)

  -- the given value is written into the state
  pub written_same : (s : List ℕ) (value : ℕ) → v < length s → given_to given v ≡ Some value → (w : ℕ) → value_after (set given v None) (set s v value) w ≡ value_after given s w
  written_same s value exists at w = grind (arith, common_steps, cases_eq, get_or-set_same, get_or-set_other)

-- writing the values that all effects give is applying the effects
pub applied : (p : Parts) (s : List ℕ) (o : Operator) (given : List (Option ℕ)) (s' : List ℕ) → AllHold (λ v. get_or s v 0) (preconditions o)
    → IsGiven p s o (length o.effects) given → IsState p.variables s' → ((var : ℕ) → get_or s' var 0 ≡ value_after given s var) → IsApplied p s o s'
applied p s o given s' applicable is state written = grind (arith, same_Some, given_to, set, get_or, unwrap_or, no_effect, length, get_or_default)

none_left : (x : Option ℕ) → ((value : ℕ) → x ≡ Some value → x ≡ None) → x ≡ None
none_left h1 none = grind arith

-- no value is given after the values of all effects' variables are removed
pub all_taken : (p : Parts) (o : Operator) (n : ℕ) (given : List (Option ℕ)) → IsGivenTo p o given → length o.effects ≤ n
    → ((k : ℕ) → k < n → given_to given (effect_at o k).var ≡ None) → NothingGiven p given
all_taken p o n given on within taken = grind (arith, common_steps, none_left)

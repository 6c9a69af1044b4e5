-- Which check fails, where a fault is the first of some checks.
use Rattle.sas_task_reasons.proofs.Imports.{◌≡◌, ℕ, suc, ◌+◌, ◌<◌, ◌⊎◌, Bool, true, false, List, [], ◌∷◌, ◌++◌, length, get_or, flat_map, refl, subst, inl, inr, arith, Option, Some, None, if◌then◌else◌, enumerate_from, none-some, Check, first_fault, check, LayerFault, numbered_checks}

-- the fault is the first of these checks
abbrev pub IsFirst : List (Check LayerFault) → LayerFault → Type 0
IsFirst checks fault = first_fault checks ≡ Some fault

-- one check
pub check_fails : (passes : Bool) (d e : LayerFault) → IsFirst (check passes d) e → (passes ≡ false) × (d ≡ e)
check_fails true d e is = absurd (none-some e is)
check_fails false d e is = (refl, let same : d ≡ e = cc in same)

pub check_passes : (passes : Bool) (d : LayerFault) → first_fault (check passes d) ≡ None → passes ≡ true
check_passes true d is = refl
check_passes false d is = absurd cc

-- checks that are only made in some cases
pub guarded_fails : (guard : Bool) (checks : List (Check LayerFault)) (e : LayerFault) → IsFirst (if guard then checks else []) e → IsFirst checks e
guarded_fails true checks e is = is
guarded_fails false checks e is = absurd (none-some e is)

-- one behind the other
abbrev pub IsFirstOfEither : List (Check LayerFault) → List (Check LayerFault) → LayerFault → Type 0
IsFirstOfEither a b e = IsFirst a e ⊎ ((first_fault a ≡ None) × IsFirst b e)

either_of : (passes : Bool) (d e : LayerFault) (a b whole : Option LayerFault) → (whole ≡ Some e → (a ≡ Some e) ⊎ ((a ≡ None) × (b ≡ Some e))) → (if passes then whole else Some d) ≡ Some e
    → ((if passes then a else Some d) ≡ Some e) ⊎ (((if passes then a else Some d) ≡ None) × (b ≡ Some e))
either_of true d e a b whole later is = later is
either_of false d e a b whole later is = inl is

pub either_fails : (a b : List (Check LayerFault)) (e : LayerFault) → IsFirst (a ++ b) e → IsFirstOfEither a b e
either_fails [] b e is = inr (refl, is)
either_fails (c ∷ a) b e is = either_of c.passes c.fault e (first_fault a) (first_fault b) (first_fault (a ++ b)) (either_fails a b e) is

-- the checks of items, each of which is named by its place
record FailsFrom {A : Type 0} (checks_of : ℕ → A → List (Check LayerFault)) (d : A) (n : ℕ) (items : List A) (e : LayerFault) : Type 0 where
  pub index : ℕ
  pub within : index < length items
  pub fails : IsFirst (checks_of (n + index) (get_or items index d)) e

module _ {A : Type 0} (checks_of : ℕ → A → List (Check LayerFault)) (d : A) where
  later : (n : ℕ) (item : A) (items : List A) (e : LayerFault) → FailsFrom checks_of d (n + 1) items e → FailsFrom checks_of d n (item ∷ items) e
  later n item items e f =
      let same : (n + 1) + f.index ≡ n + suc f.index = omega arith in
      let next : suc f.index < length (item ∷ items) = omega (arith, f.within) in
      record { index = suc f.index; within = next; fails = subst (λ (k : ℕ). IsFirst (checks_of k (get_or items f.index d)) e) same f.fails }

  first_from : (n : ℕ) (items : List A) (e : LayerFault) → IsFirst (flat_map (λ (place, item). checks_of place item) (enumerate_from n items)) e → FailsFrom checks_of d n items e
  first_from n [] e is = absurd (none-some e is)
  first_from n (item ∷ items) e is = elim (either_fails (checks_of n item) (flat_map (λ (place, item). checks_of place item) (enumerate_from (n + 1) items)) e is) [
    | inl here ↦ (let same : n ≡ n + 0 = omega arith in record { index = 0; within = omega arith; fails = subst (λ (k : ℕ). IsFirst (checks_of k item) e) same here })
    | inr behind ↦ later n item items e (first_from (n + 1) items e behind.1)
  ]

-- the item at this place fails
pub record FailsAt {A : Type 0} (checks_of : ℕ → A → List (Check LayerFault)) (d : A) (items : List A) (e : LayerFault) : Type 0 where
  pub place : ℕ
  pub within : place < length items
  pub fails : IsFirst (checks_of place (get_or items place d)) e

pub numbered_fails : {A : Type 0} (checks_of : ℕ → A → List (Check LayerFault)) (d : A) (items : List A) (e : LayerFault) → IsFirst (numbered_checks checks_of items) e → FailsAt checks_of d items e
numbered_fails checks_of d items e is =
    let f = first_from checks_of d 0 items e is in
    let same : 0 + f.index ≡ f.index = omega arith in
    record { place = f.index; within = f.within; fails = subst (λ (k : ℕ). IsFirst (checks_of k (get_or items f.index d)) e) same f.fails }

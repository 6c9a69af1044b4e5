-- A sorted list without duplicates contains the same facts as the original list.
use Rattle.sas_mutex.proofs.Imports.{replicate, ◌-◌, Ordering, Less, Equal, Greater, ◌≡◌, ◌≢◌, ℕ, zero, suc, get_or, ◌+◌, ◌<◌, ◌≤◌, Bool, true, List, [], ◌∷◌, ◌++◌, length, refl, sym, ◌∙◌, subst, inl, inr, arith, IsEquivalence, IsTotalOrder, eq_by_cmp, nat_cmp, ordering_reverse, ordering_then, Contains, IsFiltered, DiffersFromLast, IsPermutation, IsSorted, IsStrictlySortedBy, cases_eq, common_steps, own_or, facts_at, AreDistinct, IsBelow, cases_lt, get_or_append_left, get_or-append_right, get_or_push, get_or-replicate, length-append, length-replicate, length_push, get_or-eq_default, dedup_is, Contains-dedup, Contains-from_dedup, IsStrictlySortedBy-dedup, Less-from_sorted, Contains-get_or, Contains-permutation, IsPermutation-sym, length_permutation, Fact, Parts, group_at}

-- facts of which each is below the next one
below_trans : (f g h : Fact) → IsBelow f g → IsBelow g h → IsBelow f h
below_trans f g h h1 h2 = grind arith

not_below : (f g : Fact) → IsBelow f g → f ≢ g
not_below f g h1 same = grind arith

abbrev pub AreAscending : List Fact → ℕ → Type 0
AreAscending facts count = (k : ℕ) (d : Fact) → k + 1 < count → IsBelow (get_or facts k d) (get_or facts (k + 1) d)

pub ascending_once : (facts : List Fact) → AreAscending facts (length facts) → AreDistinct facts facts
ascending_once facts up = grind (arith, common_steps, not_below, later)
  where
    later : (i j : ℕ) (d : Fact) → i < j → j < length facts → IsBelow (get_or facts i d) (get_or facts j d)
    later i zero d lt within = absurd (omega arith)
    later i (suc j) d lt within =
        let one : j + 1 ≡ suc j = omega arith in
        let next : IsBelow (get_or facts j d) (get_or facts (suc j) d) = subst (λ n. IsBelow (get_or facts j d) (get_or facts n d)) one (up j d (omega arith)) in
        elim (cases_eq i j) [
          | inl is ↦ subst (λ n. IsBelow (get_or facts n d) (get_or facts (suc j) d)) (sym is) next
          | inr ne ↦ below_trans (get_or facts i d) (get_or facts j d) (get_or facts (suc j) d) (later i j d (omega arith) (omega arith)) next
        ]

-- the list that is taken
pub own_empty : (own listed : List Fact) → length own ≡ 0 → listed ≡ own_or own listed
unfolding own_or
own_empty [] listed empty = refl
own_empty (fact ∷ own) listed empty = absurd (omega arith)

pub own_some : (own listed : List Fact) → 0 < length own → own ≡ own_or own listed
unfolding own_or
own_some [] listed some = absurd (omega arith)
own_some (fact ∷ own) listed some = refl

-- the lists of the first groups, where empty ones may be left out in the end
module _ (p : Parts) (group : ℕ) (own : List (List Fact)) (short : length own ≤ group)
    (are : (place : ℕ) → place < group → AreDistinct (facts_at p own place) (group_at p place)) where
  -- empty lists are filled in
  abbrev pub filled : List (List Fact)
  filled = own ++ replicate (group - length own) []

  filled_length : length filled ≡ group
  filled_length = omega (arith, length-append own (replicate (group - length own) []), length-replicate {A = List Fact} (group - length own) [])

  filled_same : (place : ℕ) → place < group → get_or filled place [] ≡ get_or own place []
  filled_same place lt = grind (arith, common_steps, cases_lt, get_or_append_left, get_or-append_right, get_or-replicate, get_or-eq_default)

  -- one group more has its list
  pub own_more : (its : List Fact) (lists : List (List Fact)) → lists ≡ filled ++ its ∷ [] → AreDistinct (own_or its (group_at p group)) (group_at p group)
      → (length lists ≤ group + 1) × ((place : ℕ) → place < group + 1 → AreDistinct (facts_at p lists place) (group_at p place))
  own_more its lists is here = rw is (
    omega (arith, length_push filled its, filled_length),
    (λ place lt. elim (cases_eq place group) [
      | inl at ↦ rw (get_or_push filled its [] place (sym (at ∙ sym filled_length)), at) here
      | inr ne ↦ rw (get_or_append_left filled (its ∷ []) [] place (omega (arith, filled_length)), filled_same place (omega arith)) (are place (omega arith))
    ]),
  )

  -- one group more needs none
  pub own_passed : (its : List Fact) → length its ≡ 0 → AreDistinct (own_or its (group_at p group)) (group_at p group)
      → (place : ℕ) → place < group + 1 → AreDistinct (facts_at p own place) (group_at p place)
  own_passed its none here place lt = elim (cases_eq place group) [
    | inl at ↦ rw (at, get_or-eq_default own [] short) (subst (λ (fs : List Fact). AreDistinct fs (group_at p group)) (sym (own_empty its (group_at p group) none)
        ∙ own_empty [] (group_at p group) refl) here)
    | inr ne ↦ are place (omega arith)
  ]

pub none_own : (own listed : List Fact) → length own ≡ 0 → AreDistinct listed listed → AreDistinct (own_or own listed) listed
none_own own listed empty once = subst (λ (fs : List Fact). AreDistinct fs listed) (own_empty own listed empty) once

-- where the own list has the facts once, so has the list that is taken
pub own_once : (own listed : List Fact) → AreDistinct own listed → AreDistinct (own_or own listed) listed
unfolding own_or
own_once [] listed are = record {
  short = omega arith;
  same = λ fact. ((λ there. there), (λ there. there));
  once = λ i j d lt within. absurd (let none = (are.same (get_or listed j d)).1 (Contains-get_or listed j d within) in let low = none.1 in omega arith);
}
own_once (fact ∷ own) listed are = are

-- the order of facts in which they are put
abbrev pub fact_order : Fact → Fact → Ordering
fact_order f g = ordering_then (nat_cmp f.var g.var) (nat_cmp f.value g.value)

-- facts that are put in order and lose what they repeat
pub in_order_once : {E : Fact → Fact → Bool} {R : Fact → Fact → Ordering} (listed sorted own : List Fact) → IsSorted R sorted → IsFiltered (DiffersFromLast E) [] sorted own
    → IsPermutation listed sorted → length own ≤ length sorted → IsEquivalence E → ((f g : Fact) → E f g ≡ true → f ≡ g) → IsTotalOrder R
    → ((f g : Fact) → E f g ≡ eq_by_cmp R f g) → AreDistinct own listed
in_order_once {E} {R} listed sorted own up left moved short e equal o ties =
    let is = dedup_is E sorted own left in record {
      short = omega (arith, length_permutation listed sorted moved);
      same = λ fact. (
        (λ there. Contains-permutation sorted listed fact (IsPermutation-sym listed sorted moved)
            (Contains-from_dedup E sorted fact (subst (λ (fs : List Fact). Contains fs fact) is there))),
        (λ there. subst (λ (fs : List Fact). Contains fs fact) (sym is) (Contains-dedup e equal sorted fact (Contains-permutation listed sorted fact moved there))),
      );
      once = λ i j d lt within. differ (get_or own i d) (get_or own j d) (Less-from_sorted R own i j d strictly lt within);
    }
  where
    strictly : IsStrictlySortedBy R own
    strictly = subst (IsStrictlySortedBy R) (sym (dedup_is E sorted own left)) (IsStrictlySortedBy-dedup o ties sorted up)

    not_itself : (a : Ordering) → a ≡ ordering_reverse a → a ≡ Less → ⊥
    not_itself Less is less = let no : Less ≡ Greater = is in absurd cc
    not_itself Equal is less = absurd cc
    not_itself Greater is less = absurd cc

    differ : (f g : Fact) → R f g ≡ Less → f ≢ g
    differ f g less same = not_itself (R g g) (o.antisymm g g) (subst (λ h. R h g ≡ Less) same less)

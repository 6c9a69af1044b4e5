-- The contents of lists that are built from other lists.
use Rattle.sas_mutex.proofs.Imports.{◌≡◌, ◌⊎◌, ℕ, ◌<◌, List, [], ◌∷◌, length, get_or, map, Option, refl, sym, ◌∙◌, subst, inl, inr, arith, Contains, filter_map, flat_map, option_to_list, get_or-map, length-map, All-nil, All-cons, All-contains, Contains-get_or, Contains-append_left, Contains-append_right, Contains-append_cases, cases_eq, common_steps, contains_none}

-- what is made of each item is in the list of what is made
pub in_map : {X Y : Type 0} (f : X → Y) (xs : List X) (x : X) → Contains xs x → Contains (map f xs) (f x)
in_map f xs x there = grind (arith, common_steps, length-map, get_or-map)

pub from_map : {X Y : Type 0} (f : X → Y) (xs : List X) (y : Y) (d : X) → Contains (map f xs) y → (x : X) × Contains xs x × (f x ≡ y)
from_map f xs y d there =
    let within : there.0 < length xs = let len = length-map xs f in let lt = there.1 in omega arith in
    (get_or xs there.0 d, Contains-get_or xs there.0 d within, sym (get_or-map f xs there.0 d y within) ∙ there.2)

-- what is in a list made of an item is in the joined lists
pub in_flat : {X Y : Type 0} (f : X → List Y) (xs : List X) (x : X) (y : Y) → Contains xs x → Contains (f x) y → Contains (flat_map f xs) y
in_flat f [] x y there its = absurd (contains_none x there)
in_flat f (z ∷ zs) x y there its = elim (Contains-append_cases (z ∷ []) zs x there) [
  | inl here ↦ Contains-append_left (f z) (flat_map f zs) y (subst (λ w. Contains (f w) y) (sym (only_one z x here)) its)
  | inr later ↦ Contains-append_right (f z) (flat_map f zs) y (in_flat f zs x y later its)
]
  where
    only_one : {Z : Type 0} (z x : Z) → Contains (z ∷ []) x → z ≡ x
    only_one z x here = let first : here.0 ≡ 0 = let lt = here.1 in omega arith in subst (λ k. get_or (z ∷ []) k x ≡ x) first here.2

-- what is given of some items is the lists of at most one item each, joined
pub given_is : {X Y : Type 0} (h : X → Option Y) (xs : List X) → filter_map h xs ≡ flat_map (λ x. option_to_list (h x)) xs
given_is h [] = refl
given_is {X} {Y} h (x ∷ xs) = grind (arith, common_steps, given_is h xs)

-- whether a number is among some
pub is_among : (xs : List ℕ) (n : ℕ) → Contains xs n ⊎ (Contains xs n → ⊥)
is_among [] n = inr (λ w. absurd (omega (arith, w.1)))
is_among (x ∷ xs) n = elim (cases_eq x n) [
  | inl is ↦ inl (0, omega arith, is)
  | inr ne ↦ elim (is_among xs n) [
    | inl w ↦ inl (Contains-append_right (x ∷ []) xs n w)
    | inr none ↦ inr (λ w. elim (Contains-append_cases (x ∷ []) xs n w) [
      | inl v ↦ absurd (ne (All-contains (λ y. x ≡ y) (x ∷ []) n (All-cons (λ y. x ≡ y) x [] refl (All-nil (λ y. x ≡ y))) v))
      | inr v ↦ none v
    ])
  ]
]

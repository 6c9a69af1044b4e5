-- Lists of words that are the same in some order.
use Rattle.std.proofs.Common.{◌≡◌, ℕ, ◌+◌, ◌<◌, Bool, true, false, cond, List, [], ◌∷◌, ◌++◌, refl, sym, ◌∙◌, ap, subst, inl, inr, ◌⊎◌, arith, ◌==◌, sum, sum_by, get_or, bytes_eq, IsTrue, ◌↔◌, suc}
use Rattle.std.proofs.lemmas.Bool.{cases_Bool, eqb-true, eqb-false, eq-eqb}
use Rattle.std.proofs.lemmas.Grind.{common_steps}
use Rattle.std.proofs.lemmas.Cmp.{nat_list_cmp_total}
use Rattle.std.proofs.lemmas.List.Elements.{Contains-append_left, Contains-append_right}
use Rattle.std.proofs.lemmas.List.Sorted.{sum_by-IsPermutation, IsPermutation-refl, IsPermutation-cons, IsPermutation-sym, IsPermutation-trans, IsPermutation-remove, Contains-permutation, sorted_far, ranks_by, length_permutation}
use Rattle.std.proofs.lemmas.List.Sums.{sum_by-cons, AllPass-from_list_all, list_all-from_AllPass}
use Rattle.std.proofs.lemmas.Map.Text.{is_eq-slice_cmp}
use Rattle.std.proofs.lemmas.Slice.Eq.{bytes_eq-Decides}
use Rattle.std.specs.Cmp.Lexicographic.{slice_cmp}
use Rattle.std.specs.List.{Contains, count_by, remove}
use Rattle.std.specs.List.Sorted.{IsPermutation, IsSorted}
use Rattle.std.specs.Ordering.{nat_cmp, is_lt, is_eq, ordering_reverse}
use Rattle.std.specs.declared.cmp.Ordering.{Ordering}
use Rattle.sas_plan_reasons.specs.Similar.{AreSorted}
use Rattle.sas_plan_reasons.specs.Words.{are_permuted}

abbrev one_if : Bool → ℕ
one_if b = cond b 1 0

-- how often a word is among others
abbrev count : List ℕ → List (List ℕ) → ℕ
count word words = count_by (bytes_eq word) words

abbrev SameCounts : List (List ℕ) → List (List ℕ) → Type 0
SameCounts a b = (word : List ℕ) → count word a ≡ count word b

counts_kept : (a b : List (List ℕ)) → IsPermutation a b → SameCounts a b
counts_kept a b is word = sym (sum_by-IsPermutation (λ w. cond (bytes_eq word w) 1 0) a b is)

one_more : (word x : List ℕ) (xs : List (List ℕ)) → count word (x ∷ xs) ≡ cond (bytes_eq word x) 1 0 + count word xs
one_more word x xs = sum_by-cons (λ w. cond (bytes_eq word w) 1 0) x xs

is_itself : (word : List ℕ) → bytes_eq word word ≡ true
is_itself word = (bytes_eq-Decides word word).1 refl

-- a word that is counted is among the others
found : (word : List ℕ) (xs : List (List ℕ)) → 0 < count word xs → Contains xs word
found word [] some = absurd (omega (arith, some))
found word (x ∷ xs) some = elim (cases_Bool (bytes_eq word x)) [
  | inl t ↦ (0, omega arith, sym ((bytes_eq-Decides word x).0 t))
  | inr f ↦ (let w = found word xs (omega (arith, some, one_more word x xs, ap one_if f)) in (suc w.0, (let lt = w.1 in omega arith), w.2))
]

counted_first : (x : List ℕ) (xs : List (List ℕ)) → 0 < count x (x ∷ xs)
counted_first x xs = omega (arith, one_more x x xs, ap one_if (is_itself x))

-- so lists that have each word equally often are permutations of each other
pub permuted_when : (xs ys : List (List ℕ)) → SameCounts xs ys → IsPermutation xs ys
permuted_when [] [] same = IsPermutation-refl []
permuted_when [] (y ∷ ys) same = absurd (let some = counted_first y ys in let none = same y in omega (arith, some, none))
permuted_when (x ∷ xs) ys same = IsPermutation-trans (x ∷ xs) (x ∷ rest) ys (IsPermutation-cons x xs rest (permuted_when xs rest others)) (IsPermutation-sym ys (x ∷ rest) taken)
  where
    at : Contains ys x
    at = found x ys (subst (λ n. 0 < n) (same x) (counted_first x xs))

    rest : List (List ℕ)
    rest = remove ys at.0

    taken : IsPermutation ys (x ∷ rest)
    taken = IsPermutation-remove ys at.0 x at.1 (sym at.2)

    others : SameCounts xs rest
    others word = let a = one_more word x xs in
        let b = one_more word x rest in
        let e : count word (x ∷ xs) ≡ count word (x ∷ rest) = same word ∙ counts_kept ys (x ∷ rest) taken word in
        omega (arith, a, b, e)

-- ---- the test

counted_when : (word : List ℕ) (xs : List (List ℕ)) → Contains xs word ⊎ (count word xs ≡ 0)
counted_when word xs = elim (cases_Bool (count word xs == 0)) [
  | inl t ↦ inr (eqb-true (count word xs) 0 t)
  | inr f ↦ inl (found word xs (let ne = eqb-false (count word xs) 0 f in omega (arith, ne)))
]

pub permuted_decides : (a b : List (List ℕ)) → IsTrue (are_permuted a b) ↔ IsPermutation a b
permuted_decides a b = (λ t. permuted_when a b (all t), λ is. list_all-from_AllPass same (a ++ b) (λ k d lt. eq-eqb _ _ (counts_kept a b is (get_or (a ++ b) k d))))
  where
    same : List ℕ → Bool
    same word = count word a == count word b

    at : are_permuted a b ≡ true → (word : List ℕ) → Contains (a ++ b) word → count word a ≡ count word b
    at t word w = subst (λ x. count x a ≡ count x b) w.2 (eqb-true _ _ (AllPass-from_list_all same (a ++ b) t w.0 word w.1))

    all : are_permuted a b ≡ true → SameCounts a b
    all t word = elim (counted_when word a) [
      | inl h ↦ at t word (Contains-append_left a b word h)
      | inr e ↦ elim (counted_when word b) [
        | inl h ↦ at t word (Contains-append_right a b word h)
        | inr e' ↦ e ∙ sym e'
      ]
    ]

-- ---- in ascending order

abbrev by_bytes : List ℕ → List ℕ → Bool
by_bytes x y = is_lt (slice_cmp nat_cmp x y)

-- the first word is no greater than each
first_is_lowest : (x : List ℕ) (xs : List (List ℕ)) → IsSorted (slice_cmp nat_cmp) (x ∷ xs) → (word : List ℕ) → Contains (x ∷ xs) word → by_bytes word x ≡ false
first_is_lowest x xs up word w =
    subst (λ v. by_bytes v x ≡ false) w.2 (sorted_far by_bytes (ranks_by nat_list_cmp_total (λ y. y)) (x ∷ xs) up 0 w.0 word (omega arith) w.1)

tied : (o back : Ordering) → o ≡ ordering_reverse back → is_lt o ≡ false → is_lt back ≡ false → is_eq o ≡ true
tied o back e a b = grind (arith, common_steps)

neither_is : (x y : List ℕ) → by_bytes x y ≡ false → by_bytes y x ≡ false → x ≡ y
neither_is x y a b = (bytes_eq-Decides x y).0 (sym (is_eq-slice_cmp x y) ∙ tied (slice_cmp nat_cmp x y) (slice_cmp nat_cmp y x) (nat_list_cmp_total.antisymm x y) a b)

-- words in ascending order are determined by how often each is among them
pub sorted_same : (xs ys : List (List ℕ)) → IsSorted (slice_cmp nat_cmp) xs → IsSorted (slice_cmp nat_cmp) ys → IsPermutation xs ys → xs ≡ ys
sorted_same [] [] up up' is = refl
sorted_same [] (y ∷ ys) up up' is = absurd (omega (arith, length_permutation [] (y ∷ ys) is))
sorted_same (x ∷ xs) [] up up' is = absurd (omega (arith, length_permutation (x ∷ xs) [] is))
sorted_same (x ∷ xs) (y ∷ ys) up up' is = ap (λ w. w ∷ xs) heads ∙ ap (λ (l : List (List ℕ)). y ∷ l) (sorted_same xs ys (behind x xs up) (behind y ys up') (permuted_when xs ys tails))
  where
    heads : x ≡ y
    heads = neither_is x y (first_is_lowest y ys up' x (Contains-permutation (x ∷ xs) (y ∷ ys) x is (0, omega arith, refl)))
        (first_is_lowest x xs up y (Contains-permutation (y ∷ ys) (x ∷ xs) y (IsPermutation-sym (x ∷ xs) (y ∷ ys) is) (0, omega arith, refl)))

    tails : SameCounts xs ys
    tails word = let a = one_more word x xs in
        let b = one_more word y ys in
        let e = counts_kept (x ∷ xs) (y ∷ ys) is word in
        let h = ap (λ w. one_if (bytes_eq word w)) heads in
        omega (arith, a, b, e, h)

    behind : (z : List ℕ) (zs : List (List ℕ)) → IsSorted (slice_cmp nat_cmp) (z ∷ zs) → IsSorted (slice_cmp nat_cmp) zs
    behind z zs ascend k d low lt =
        let next : suc k + 1 ≡ suc (k + 1) = omega arith in
        subst (λ n. is_lt (slice_cmp nat_cmp (get_or (z ∷ zs) n d) (get_or zs k d)) ≡ false) next (ascend (suc k) d (omega arith) (omega (arith, lt)))

pub permuted_from : (a b above below : List (List ℕ)) → AreSorted a above → AreSorted b below → above ≡ below → IsPermutation a b
permuted_from a b above below x y e = IsPermutation-trans a above b x.same (IsPermutation-sym b above (subst (IsPermutation b) (sym e) y.same))

pub not_permuted : (a b above below : List (List ℕ)) → AreSorted a above → AreSorted b below → (above ≡ below → ⊥) → IsPermutation a b → ⊥
not_permuted a b above below x y ne is =
    ne (sorted_same above below x.ascend y.ascend (IsPermutation-trans above a below (IsPermutation-sym a above x.same) (IsPermutation-trans a b below is y.same)))

pub same_sum : (a b : List (List ℕ)) → IsPermutation a b → sum_by sum a ≡ sum_by sum b
same_sum a b is = sym (sum_by-IsPermutation sum a b is)

-- Lists of borrowed words, and the words.
use Rattle.std.proofs.Common.{◌≡◌, ℕ, ◌+◌, ◌<◌, suc, Bool, true, false, not, bytes_eq, List, [], ◌∷◌, length, map, get_or, refl, sym, ◌∙◌, ap, arith}
use Rattle.std.proofs.lemmas.Bool.{true≢false}
use Rattle.std.proofs.lemmas.Slice.Eq.{bytes_eq-Decides}
use Rattle.std.proofs.lemmas.List.{get_or-map, length-map}
use Rattle.std.proofs.lemmas.List.Sorted.{IsPermutation-map}
use Rattle.std.specs.Borrow.{Bor}
use Rattle.std.specs.Cmp.Lexicographic.{slice_cmp}
use Rattle.std.specs.List.Sorted.{IsPermutation, IsSorted}
use Rattle.std.specs.Ordering.{nat_cmp, is_lt}
use Rattle.sas_plan_reasons.specs.Similar.{AreSorted}

abbrev pub values : List (Bor (List ℕ)) → List (List ℕ)
values words = map (λ word. word.now) words

-- words are the same if they are so at each place
pub same_values : (a b : List (Bor (List ℕ))) → length a ≡ length b → ((k : ℕ) (d : Bor (List ℕ)) → k < length a → (get_or a k d).now ≡ (get_or b k d).now) → values a ≡ values b
same_values [] [] many each = refl
same_values [] (y ∷ ys) many each = absurd (omega (arith, many))
same_values (x ∷ xs) [] many each = absurd (omega (arith, many))
same_values (x ∷ xs) (y ∷ ys) many each = ap (λ v. v ∷ values xs) (each 0 x (omega arith))
    ∙ ap (λ (l : List (List ℕ)). y.now ∷ l) (same_values xs ys (omega (arith, many)) (λ k d lt. each (suc k) d (omega (arith, lt))))

at : (a : List (Bor (List ℕ))) (k : ℕ) (d : Bor (List ℕ)) (e : List ℕ) → k < length a → get_or (values a) k e ≡ (get_or a k d).now
at a k d e lt = get_or-map (λ w. w.now) a k d e lt

pub same_at : (a b : List (Bor (List ℕ))) → length a ≡ length b → values a ≡ values b → (k : ℕ) (d : Bor (List ℕ)) → k < length a → (get_or a k d).now ≡ (get_or b k d).now
same_at a b many e k d lt = sym (at a k d [] lt) ∙ (ap (λ (l : List (List ℕ)). get_or l k []) e ∙ at b k d [] (omega (arith, lt, many)))

pub same_many : (a b : List (Bor (List ℕ))) → values a ≡ values b → length a ≡ length b
same_many a b e = omega (arith, ap (λ (l : List (List ℕ)). length l) e, length-map a (λ (w : Bor (List ℕ)). w.now), length-map b (λ (w : Bor (List ℕ)). w.now))

abbrev by_value : Bor (List ℕ) → Bor (List ℕ) → Rattle.std.specs.declared.cmp.Ordering.Ordering
by_value a b = slice_cmp nat_cmp a.now b.now

ascend_by_value : (a : List (Bor (List ℕ))) → IsSorted by_value a → IsSorted (slice_cmp nat_cmp) (values a)
ascend_by_value [] up k d low lt = absurd (omega (arith, lt))
ascend_by_value (x ∷ xs) up k d low lt =
    let many = length-map xs (λ (w : Bor (List ℕ)). w.now) in
    ap (λ v. is_lt (slice_cmp nat_cmp v (get_or (values (x ∷ xs)) k d))) (at (x ∷ xs) (k + 1) x d (omega (arith, lt, many)))
    ∙ (ap (λ v. is_lt (slice_cmp nat_cmp (get_or (x ∷ xs) (k + 1) x).now v)) (at (x ∷ xs) k x d (omega (arith, lt, many)))
    ∙ up k x low (omega (arith, lt, many)))

-- borrowed words that were sorted are the words in ascending order
pub sorted_values : (a b : List (Bor (List ℕ))) → IsPermutation a b → IsSorted by_value b → AreSorted (values a) (values b)
sorted_values a b is up = record { same = IsPermutation-map (λ w. w.now) a b is; ascend = ascend_by_value b up }

-- ---- the test of two words

pub ne_is : (a b : List ℕ) → not (bytes_eq a b) ≡ true → a ≡ b → ⊥
ne_is a b t e = true≢false (sym t ∙ ap not ((bytes_eq-Decides a b).1 e))

pub eq_is : (a b : List ℕ) → not (bytes_eq a b) ≡ false → a ≡ b
eq_is a b f = (bytes_eq-Decides a b).0 (not-false (bytes_eq a b) f)
  where
    not-false : (t : Bool) → not t ≡ false → t ≡ true
    not-false true h = refl
    not-false false h = absurd (true≢false h)

-- so words are the same at a place, whatever the defaults are
pub same_there : (a b : List (Bor (List ℕ))) (k : ℕ) (x y d : Bor (List ℕ)) → length a ≡ length b → k < length a → (get_or a k x).now ≡ (get_or b k y).now → (get_or a k d).now ≡ (get_or b k d).now
same_there a b k x y d many lt e = sym (at a k d [] lt) ∙ (at a k x [] lt ∙ (e ∙ (sym (at b k y [] (omega (arith, lt, many))) ∙ at b k d [] (omega (arith, lt, many)))))

-- The places of the items of a list that pass a test.
use Rattle.sas_meaning.proofs.Imports.{common_steps, ◌≡◌, ℕ, zero, suc, ◌+◌, ◌<◌, ◌≤◌, Bool, true, false, List, [], ◌∷◌, ◌++◌, length, get_or, take, refl, sym, ◌∙◌, ap, subst, inl, inr, arith, if◌then◌else◌, AllPairs, Contains, cases_Bool, take_all, length-take-le, Contains-get_or, AllPairs-cons, take-suc, places_from, places}
use Rattle.sas_meaning.proofs.Members.{contains_head, contains_tail, contains_cases, contains_none}

module _ {A : Type 0} (test : A → Bool) where
  pub takes : (place : ℕ) (x : A) (xs : List A) → test x ≡ true → places_from place test (x ∷ xs) ≡ place ∷ places_from (place + 1) test xs
  takes place x xs is = ap (λ b. if b then place ∷ places_from (place + 1) test xs else places_from (place + 1) test xs) is

  pub passes_by : (place : ℕ) (x : A) (xs : List A) → test x ≡ false → places_from place test (x ∷ xs) ≡ places_from (place + 1) test xs
  passes_by place x xs is = ap (λ b. if b then place ∷ places_from (place + 1) test xs else places_from (place + 1) test xs) is

  -- a place is one of an item that passes
  pub record IsPlace (place : ℕ) (items : List A) (z : ℕ) : Type 0 where
    pub index : ℕ
    pub within : index < length items
    pub is : z ≡ place + index
    pub passes : (d : A) → test (get_or items index d) ≡ true

  one_on : (place : ℕ) (x : A) (xs : List A) (z : ℕ) → IsPlace (place + 1) xs z → IsPlace place (x ∷ xs) z
  one_on place x xs z w = record {
    index = suc w.index;
    within = (let lt = w.within in omega arith);
    is = (let e = w.is in omega arith);
    passes = w.passes;
  }

  pub place_is : (place : ℕ) (items : List A) (z : ℕ) → Contains (places_from place test items) z → IsPlace place items z
  place_is place [] z h = absurd (contains_none z h)
  place_is place (x ∷ xs) z h = elim (cases_Bool (test x)) [
    | inr n ↦ one_on place x xs z (place_is (place + 1) xs z (subst (λ zs. Contains zs z) (passes_by place x xs n) h))
    | inl y ↦ elim (contains_cases place (places_from (place + 1) test xs) z (subst (λ zs. Contains zs z) (takes place x xs y) h)) [
      | inl e ↦ record { index = 0; within = omega arith; is = omega (arith, sym e); passes = λ d. y }
      | inr behind ↦ one_on place x xs z (place_is (place + 1) xs z behind)
    ]
  ]

  -- and the place of each item that passes is there
  pub is_place : (place : ℕ) (items : List A) (index : ℕ) (d : A) → index < length items → test (get_or items index d) ≡ true
      → Contains (places_from place test items) (place + index)
  is_place place [] index d lt is = absurd (omega arith)
  is_place place (x ∷ xs) zero d lt is = grind (arith, common_steps, takes, contains_head)
  is_place place (x ∷ xs) (suc index) d lt is = there (subst (Contains (places_from (place + 1) test xs)) (let e : place + 1 + index ≡ place + suc index = omega arith in e)
      (is_place (place + 1) xs index d (omega arith) is))
    where
      there : Contains (places_from (place + 1) test xs) (place + suc index) → Contains (places_from place test (x ∷ xs)) (place + suc index)
      there h = elim (cases_Bool (test x)) [
        | inl y ↦ subst (λ zs. Contains zs (place + suc index)) (sym (takes place x xs y)) (contains_tail place (places_from (place + 1) test xs) (place + suc index) h)
        | inr n ↦ subst (λ zs. Contains zs (place + suc index)) (sym (passes_by place x xs n)) h
      ]

-- ---- one item more

one_place : {A : Type 0} (test : A → Bool) (place : ℕ) (x : A) → places_from place test (x ∷ []) ≡ (if test x then place ∷ [] else [])
one_place test place x = refl

pub places_more : {A : Type 0} (test : A → Bool) (place : ℕ) (xs : List A) (x : A)
    → places_from place test (xs ++ x ∷ []) ≡ places_from place test xs ++ (if test x then (place + length xs) ∷ [] else [])
places_more test place [] x = ap (λ n. if test x then n ∷ [] else []) (let e : place ≡ place + 0 = omega arith in e)
places_more test place (y ∷ ys) x = elim (cases_Bool (test y)) [
  | inl t ↦ ap (λ b. if b then place ∷ places_from (place + 1) test (ys ++ x ∷ []) else places_from (place + 1) test (ys ++ x ∷ [])) t
      ∙ (ap (λ (l : List ℕ). place ∷ l) (behind (places_more test (place + 1) ys x))
      ∙ ap (λ b. (if b then place ∷ places_from (place + 1) test ys else places_from (place + 1) test ys) ++ (if test x then (place + suc (length ys)) ∷ [] else [])) (sym t))
  | inr t ↦ ap (λ b. if b then place ∷ places_from (place + 1) test (ys ++ x ∷ []) else places_from (place + 1) test (ys ++ x ∷ [])) t
      ∙ (behind (places_more test (place + 1) ys x)
      ∙ ap (λ b. (if b then place ∷ places_from (place + 1) test ys else places_from (place + 1) test ys) ++ (if test x then (place + suc (length ys)) ∷ [] else [])) (sym t))
]
  where
    behind : places_from (place + 1) test (ys ++ x ∷ []) ≡ places_from (place + 1) test ys ++ (if test x then (place + 1 + length ys) ∷ [] else [])
        → places_from (place + 1) test (ys ++ x ∷ []) ≡ places_from (place + 1) test ys ++ (if test x then (place + suc (length ys)) ∷ [] else [])
    behind is = grind (arith, common_steps)

-- the places among the first k items
abbrev pub places_to : {A : Type 0} → (A → Bool) → ℕ → List A → List ℕ
places_to test k items = places test (take k items)

pub places_one_more : {A : Type 0} (test : A → Bool) (k : ℕ) (items : List A) (d : A) → k < length items
    → places_to test (k + 1) items ≡ places_to test k items ++ (if test (get_or items k d) then k ∷ [] else [])
places_one_more test k items d lt = grind (arith, common_steps, take-suc, places_more, length-take-le)

pub places_all : {A : Type 0} (test : A → Bool) (k : ℕ) (items : List A) → length items ≤ k → places_to test k items ≡ places test items
places_all test k items le = ap (λ l. places test l) (take_all k items le)

-- ---- they ascend

pub places_ascend : {A : Type 0} (test : A → Bool) (place : ℕ) (items : List A) → AllPairs (λ a b. a < b) (places_from place test items)
places_ascend test place [] = λ i j d lt within. absurd (let h : j < 0 = within in omega arith)
places_ascend test place (item ∷ items) = elim (test item) as (λ b. AllPairs (λ a b. a < b) (if b then place ∷ places_from (place + 1) test items else places_from (place + 1) test items)) [
  | true ↦ AllPairs-cons (λ a b. a < b) place (places_from (place + 1) test items)
      (λ k d lt. let w = place_is test (place + 1) items (get_or (places_from (place + 1) test items) k d) (Contains-get_or (places_from (place + 1) test items) k d lt) in omega (arith, w.is))
      (places_ascend test (place + 1) items)
  | false ↦ places_ascend test (place + 1) items
]

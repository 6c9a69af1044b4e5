-- Properties of tables.
use Rattle.sas_flat.proofs.Imports.{◌≡◌, ℕ, zero, suc, ◌+◌, ◌<◌, ◌≤◌, ◌⊎◌, inl, inr, [], ◌∷◌, ◌++◌, length, take, get_or, refl, sym, ap, ◌∙◌, arith, append-nil, append_assoc, length-append, eq-or-lt_of_le, get_or-append, get_or-append_seam, take-length, take-append-le, slice_get-get_or, slice_get, Some, table}

pub length-table : {X : Type 0} (n : ℕ) (f : ℕ → X) → length (table n f) ≡ n
unfolding table
length-table zero f = refl
length-table (suc n) f = omega (arith, length-table n f, length-append (table n f) (f n ∷ []))

pub table_same : {X : Type 0} (n : ℕ) (f g : ℕ → X) → ((i : ℕ) → i < n → f i ≡ g i) → table n f ≡ table n g
unfolding table
table_same zero f g same = refl
table_same (suc n) f g same =
    ap (λ l. l ++ f n ∷ []) (table_same n f g (λ i h. same i (omega arith)))
    ∙ ap (λ x. table n g ++ x ∷ []) (same n (omega arith))

-- no item
pub table_none : {X : Type 0} (n : ℕ) (f : ℕ → X) → n ≡ 0 → table n f ≡ []
unfolding table
table_none n f none = ap (λ k. table k f) none

-- one more
pub table_more : {X : Type 0} (n m : ℕ) (f g : ℕ → X) (x : X) → m ≡ n + 1 → ((i : ℕ) → i < n → g i ≡ f i) → g n ≡ x → table m g ≡ table n f ++ x ∷ []
unfolding table
table_more n m f g x is same last =
    let one_more : m ≡ suc n = omega arith in
    ap (λ k. table k g) one_more ∙ ap (λ l. l ++ g n ∷ []) (table_same n g f same) ∙ ap (λ y. table n f ++ y ∷ []) last

-- a table behind another
pub table_append : {X : Type 0} (n m : ℕ) (f g h : ℕ → X) → ((i : ℕ) → i < n → h i ≡ f i) → ((j : ℕ) → j < m → h (n + j) ≡ g j) → table (n + m) h ≡ table n f ++ table m g
unfolding table
table_append n zero f g h first second =
    let none : n + zero ≡ n = omega arith in
    ap (λ k. table k h) none ∙ table_same n h f first ∙ sym (append-nil (table n f))
table_append n (suc m) f g h first second =
    let one_more : n + suc m ≡ suc (n + m) = omega arith in
    ap (λ k. table k h) one_more
    ∙ ap (λ l. l ++ h (n + m) ∷ []) (table_append n m f g h first (λ j b. second j (omega arith)))
    ∙ ap (λ x. (table n f ++ table m g) ++ x ∷ []) (second m (omega arith))
    ∙ append_assoc (table n f) (table m g) (g m ∷ [])

read : {X : Type 0} (n : ℕ) (f : ℕ → X) (i : ℕ) (d : X) → ((i ≡ n) ⊎ (i < n)) → (i < n → get_or (table n f) i d ≡ f i) → get_or (table n f ++ f n ∷ []) i d ≡ f i
read n f i d (inl e) below =
    ap (λ k. get_or (table n f ++ f n ∷ []) k d) (e ∙ sym (length-table n f)) ∙ get_or-append_seam (table n f) (f n) [] d ∙ ap f (sym e)
read n f i d (inr h) below = get_or-append (table n f) (f n ∷ []) d i (omega (arith, length-table n f)) ∙ below h

pub get_or-table : {X : Type 0} (n : ℕ) (f : ℕ → X) (i : ℕ) (d : X) → i < n → get_or (table n f) i d ≡ f i
unfolding table
get_or-table zero f i d h = absurd (omega arith)
get_or-table (suc n) f i d h =
    let small : (i ≡ n) ⊎ (i < n) = eq-or-lt_of_le (omega arith) in
    read n f i d small (λ k. get_or-table n f i d k)

pub slice_get-table : {X : Type 0} (n : ℕ) (f : ℕ → X) (i : ℕ) → i < n → slice_get (table n f) i ≡ Some (f i)
slice_get-table n f i h = slice_get-get_or (table n f) i (f i) (omega (arith, length-table n f)) ∙ ap (λ x. Some x) (get_or-table n f i (f i) h)

taken : {X : Type 0} (n : ℕ) (f : ℕ → X) (k : ℕ) → ((k ≡ suc n) ⊎ (k < suc n)) → (k ≤ n → take k (table n f) ≡ table k f) → take k (table n f ++ f n ∷ []) ≡ table k f
unfolding table
taken n f k (inl e) below =
    ap (λ j. take j (table n f ++ f n ∷ [])) (omega (arith, length-table n f, length-append (table n f) (f n ∷ [])))
    ∙ take-length (table n f ++ f n ∷ []) ∙ ap (λ j. table j f) (sym e)
taken n f k (inr h) below = take-append-le k (table n f) (f n ∷ []) (omega (arith, length-table n f)) ∙ below (omega arith)

-- the first ones
pub take-table : {X : Type 0} (n : ℕ) (f : ℕ → X) (k : ℕ) → k ≤ n → take k (table n f) ≡ table k f
unfolding table
take-table zero f k h = let none : k ≡ 0 = omega arith in ap (λ j. take j (table zero f)) none ∙ ap (λ j. table j f) (sym none)
take-table (suc n) f k h =
    let small : (k ≡ suc n) ⊎ (k < suc n) = eq-or-lt_of_le (omega arith) in
    taken n f k small (λ b. take-table n f k b)

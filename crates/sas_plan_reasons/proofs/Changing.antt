-- The texts of the first numbers, one after the other; and so the changes that were printed so far,
-- in the order of the variables.
use Rattle.sas_plan_reasons.proofs.Imports.{◌≡◌, ℕ, zero, suc, ◌+◌, ◌<◌, ◌≤◌, List, [], ◌∷◌, ◌++◌, map, flat_map, append_assoc, sym, ◌∙◌, ap, arith, range_with_len, flat_map-append, flat_map-map, map-range_with_len_more, ◌-◌, Bool, true, false, not, ◌==◌, length, filter, get_or, refl, inl, inr, if◌then◌else◌, slice_set, cond, Contains, IsNonDecreasing, cases_eq, cases_lt, cases_Bool, eq-eqb, is_changed, change_line, change_lines, change_text, ListCoversChanges, eqb-true, same_number_lists, Parts, get_or_default, text}
use Rattle.std.proofs.Common.{append-nil, get_or-set_other, get_or-set_same, length-set}
use Rattle.std.proofs.lemmas.Grind.{common_steps}

abbrev itself : ℕ → ℕ
itself n = n

module _ (says : ℕ → List ℕ) where
  -- what the first n numbers say
  abbrev pub said : ℕ → List ℕ
  said n = flat_map says (range_with_len 0 n)

  -- and the next one
  pub said_more : (n : ℕ) → said n ++ says n ≡ said (n + 1)
  said_more n =
      let row = range_with_len 0 n in
      let parts : said (n + 1) ≡ said n ++ says n =
      sym (flat_map-map says itself (range_with_len 0 (n + 1)))
      ∙ ap (flat_map says) (map-range_with_len_more itself 0 n n (omega arith))
      ∙ flat_map-append says (map itself row) (n ∷ [])
      ∙ ap (λ (l : List ℕ). l ++ flat_map says (n ∷ [])) (flat_map-map says itself row)
      ∙ ap (λ (l : List ℕ). said n ++ l) (append-nil (says n)) in
      sym parts

  -- and some more
  pub said_rest : (m n : ℕ) → (rest : List ℕ) × (said m ++ rest ≡ said (m + n))
  said_rest m zero = ([], append-nil (said m) ∙ (let e : m ≡ m + 0 = omega arith in ap said e))
  said_rest m (suc n) =
      let (rest, is) = said_rest m n in
      let e : (m + n) + 1 ≡ m + suc n = omega arith in
      (rest ++ says (m + n), sym (append_assoc (said m) rest (says (m + n))) ∙ ap (λ (l : List ℕ). l ++ says (m + n)) is ∙ said_more (m + n) ∙ ap said e)

  -- some that say nothing
  pub said_quiet : (m n : ℕ) → ((j : ℕ) → m ≤ j → j < m + n → says j ≡ []) → said (m + n) ≡ said m
  said_quiet m zero quiet = let e : m + 0 ≡ m = omega arith in ap said e
  said_quiet m (suc n) quiet =
      let e : m + suc n ≡ (m + n) + 1 = omega arith in
      ap said e ∙ sym (said_more (m + n)) ∙ ap (λ (l : List ℕ). said (m + n) ++ l) (quiet (m + n) (omega arith) (omega arith))
      ∙ append-nil (said (m + n)) ∙ said_quiet m n (λ j le lt. quiet j le (omega arith))

-- ---- the same value, or another one
pub is_same : (x y : ℕ) → x ≡ y → not (x == y) ≡ false
is_same x y e = ap not (eq-eqb x y e)

pub is_other : (x y : ℕ) → (x ≡ y → ⊥) → not (x == y) ≡ true
is_other x y ne = grind (arith, common_steps, cases_Bool, eqb-true)

-- the number at the place where the list contains it
place_of : (listed : List ℕ) (j : ℕ) (there : Contains listed j) → get_or listed there.0 0 ≡ j
place_of listed j there = get_or_default listed there.0 0 j there.1 ∙ there.2

module _ (p : Parts) (s s' : List ℕ) where
  -- ---- the text of all changes

  -- what a variable says, in the order of the variables
  abbrev pub says : ℕ → List ℕ
  says = change_text p s s'

  one_text : (b : Bool) (var : ℕ) (vars : List ℕ) → text (map (change_line p s s') (cond b (var ∷ vars) vars))
      ≡ (if b then change_line p s s' var ++ 10 ∷ [] else []) ++ text (map (change_line p s s') vars)
  one_text true var vars = refl
  one_text false var vars = refl

  texts : (vars : List ℕ) → text (map (change_line p s s') (filter (is_changed s s') vars)) ≡ flat_map says vars
  texts [] = refl
  texts (var ∷ vars) = one_text (is_changed s s' var) var (filter (is_changed s s') vars) ∙ ap (λ (l : List ℕ). says var ++ l) (texts vars)

  all_texts : text (change_lines p s s') ≡ said says (length p.variables)
  all_texts = texts (range_with_len 0 (length p.variables))

  -- ---- the text of one

  -- where the value that was printed is that of s
  same_text : (printed : List ℕ) (var : ℕ) → get_or printed var 0 ≡ get_or s var 0 → change_text p printed s' var ≡ says var
  same_text printed var e = grind (arith, common_steps)

  -- where it is that of s'
  no_text : (printed : List ℕ) (var : ℕ) → get_or printed var 0 ≡ get_or s' var 0 → change_text p printed s' var ≡ []
  no_text printed var e = ap (λ (b : Bool). if b then change_line p printed s' var ++ 10 ∷ [] else []) (is_same (get_or printed var 0) (get_or s' var 0) e)

  -- ---- up to a variable

  -- of the variables below b the values in s' were printed, of the others those in s
  pub record PrintedUpTo (printed : List ℕ) (b : ℕ) : Type 0 where
    pub fits : length printed ≡ length s'
    pub below : (var : ℕ) → var < b → get_or printed var 0 ≡ get_or s' var 0
    pub above : (var : ℕ) → b ≤ var → get_or printed var 0 ≡ get_or s var 0

  -- this one is next, or the last one once more: those between have the same value in both
  pub record IsNext (b var : ℕ) : Type 0 where
    pub near : b ≤ var + 1
    pub exists : var < length s'
    pub still : (j : ℕ) → b ≤ j → j < var → get_or s' j 0 ≡ get_or s j 0

  pub next_itself : (var : ℕ) → var < length s' → IsNext var var
  next_itself var lt = record { near = omega arith; exists = lt; still = λ j le late. absurd (omega arith) }

  module _ (printed : List ℕ) (b : ℕ) (up : PrintedUpTo printed b) where
    module _ (var : ℕ) (next : IsNext b var) where
      pub printed_next : PrintedUpTo (slice_set printed var (get_or s' var 0)) (var + 1)
      printed_next = grind (arith, length-set, get_or, cases_eq, slice_set, get_or-set_same, get_or-set_other, cases_lt)

      pub text_next : said says b ++ change_text p printed s' var ≡ said says (var + 1)
      text_next = elim (cases_lt var b) [
        | inl again ↦
            let e : b ≡ var + 1 = (let n = next.near in omega arith) in
            ap (λ (l : List ℕ). said says b ++ l) (no_text printed var (up.below var again)) ∙ append-nil (said says b) ∙ ap (said says) e
        | inr new ↦
            let e : var ≡ b + (var - b) = omega arith in
            let quiet : said says var ≡ said says b = ap (said says) e ∙ said_quiet says b (var - b) (λ j le lt. no_text s j (sym (next.still j le (omega arith)))) in
            ap (λ (l : List ℕ). said says b ++ l) (same_text printed var (up.above var new))
            ∙ ap (λ (l : List ℕ). l ++ says var) (sym quiet) ∙ said_more says var
      ]

    -- ---- in the end

    module _ (fits : length s' ≡ length p.variables) (within : b ≤ length p.variables)
        (still : (j : ℕ) → b ≤ j → j < length p.variables → get_or s' j 0 ≡ get_or s j 0) where
      pub printed_all : printed ≡ s'
      printed_all = grind (arith, common_steps, same_number_lists, cases_lt)

      pub text_all : said says b ≡ text (change_lines p s s')
      text_all =
          let n = length p.variables in
          let e : b + (n - b) ≡ n = omega arith in
          sym (said_quiet says b (n - b) (λ j le lt. no_text s j (sym (still j le (omega arith))))) ∙ (ap (said says) e ∙ sym all_texts)

  -- ---- up to a place of a list

  -- the variables up to this place of the list are below b, the others aren't, but for the last one
  pub record ListedUpTo (listed : List ℕ) (i b : ℕ) : Type 0 where
    pub within : b ≤ length s'
    pub before : (j : ℕ) → j < i → get_or listed j 0 < b
    pub behind : (j : ℕ) → i ≤ j → j < length listed → b ≤ get_or listed j 0 + 1

  module _ (listed : List ℕ) (up : IsNonDecreasing listed) (cover : ListCoversChanges s s' listed) (fits : length s ≡ length s') (i b : ℕ) (at : ListedUpTo listed i b) where
    module _ (lt : i < length listed) where
      pub listed_next : IsNext b (get_or listed i 0)
      listed_next = record {
        near = at.behind i (omega arith) lt;
        exists = omega (arith, cover.exist i 0 lt, fits);
        still = λ j le early. elim (cover.each j) [
          | inl same ↦ same
          | inr there ↦ let is = place_of listed j there in absurd (elim (cases_lt there.0 i) [
            | inl front ↦ (let low = at.before there.0 front in omega arith)
            | inr rest ↦ (let high = up i there.0 0 rest there.1 in omega arith)
          ])
        ];
      }

      pub listed_more : ListedUpTo listed (i + 1) (get_or listed i 0 + 1)
      listed_more = grind arith

    pub listed_all : length listed ≤ i → (j : ℕ) → b ≤ j → j < length p.variables → get_or s' j 0 ≡ get_or s j 0
    listed_all all j le lt = elim (cover.each j) [
      | inl same ↦ same
      | inr there ↦ absurd (let low = at.before there.0 (let w = there.1 in omega arith) in let is = place_of listed j there in omega arith)
    ]

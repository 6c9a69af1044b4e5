-- Properties of decimal notation.
use Rattle.sas_lines.proofs.Imports.{◌≡◌, ℕ, zero, suc, ◌+◌, ◌*◌, ◌-◌, ◌/◌, ◌%◌, ◌<◌, ◌≤◌, ◌^◌, List, [], ◌∷◌, ◌++◌, length, get_or, take, refl, sym, ap, subst, ◌∙◌, arith, rules, inl, inr, decimal, digit_value, IsInRange, AllDigits, digits_value, IsNumeralModel, numerals_by_value, tells_digits, digits_value_short, digit_at, decimal_nonempty, length-decimal-le, first_decimal, digits_decimal, digits_more, digits_value_more, digits_value-decimal, decimal-digits_value, decimal_digit, decimal_step, decimal_injective, length-take, take_all, take_at, take_more, get_or_at, length_push, cases_lt}

pub own : IsNumeralModel (AllDigits 10) (digits_value 10)
own = numerals_by_value (AllDigits 10) tells_digits

-- ---- of a line that spells a number

pub is_not_empty : (line : List ℕ) (n : ℕ) → n < 2 ^ 64 → line ≡ decimal n → 0 < length line
is_not_empty line n h e = let k = decimal_nonempty n h in rw e k

pub is_short : (line : List ℕ) (n k : ℕ) → 0 < k → n < 10 ^ k → n < 2 ^ 64 → line ≡ decimal n → length line ≤ k
is_short line n k p s h e = let j = length-decimal-le k n p s h in rw e j

pub is_zero : (line : List ℕ) (n : ℕ) → n < 2 ^ 64 → line ≡ decimal n → get_or line 0 0 ≡ 48 → 1 < length line → ⊥
is_zero line zero h e z l = omega (arith, ap length (e ∙ decimal_digit 0 (omega arith)))
is_zero line (suc n) h e z l = let k = first_decimal (suc n) (omega arith) h in let j : 48 < get_or line 0 0 = rw e k in omega arith

pub is_digit : (line : List ℕ) (n i : ℕ) → n < 2 ^ 64 → line ≡ decimal n → i < length line → IsInRange 48 57 (get_or line i 0)
is_digit line n i h e l = digit_at line i (rw e (digits_decimal own n h)) l

pub same_value : (line : List ℕ) (m n : ℕ) → m < 2 ^ 64 → n < 2 ^ 64 → line ≡ decimal m → line ≡ decimal n → m ≡ n
same_value line m n f g e d = decimal_injective m n f g (sym e ∙ d)

pub is_below : (line : List ℕ) (n k : ℕ) → n < 2 ^ 64 → line ≡ decimal n → length line ≤ k → n < 10 ^ k
is_below line n k h e l =
    let d : AllDigits 10 line = rw e (digits_decimal own n h) in
    let v : digits_value 10 line ≡ n = rw e (digits_value-decimal own n h) in
    rw (← v) (digits_value_short own line k d l)

-- a long line spells no single digit
pub is_long : (line : List ℕ) (n : ℕ) → n < 2 ^ 64 → line ≡ decimal n → 1 < length line → 10 ≤ n
is_long line n h e l = elim (cases_lt n 10) [ inl s ↦ absurd (omega (arith, is_short line n 1 (omega arith) (omega arith) h e)) | inr g ↦ g ]

-- ---- of the digits so far

pub so_far_below : (line : List ℕ) (i k : ℕ) → AllDigits 10 (take i line) → i ≤ k → digits_value 10 (take i line) < 10 ^ k
so_far_below line i k d l = digits_value_short own (take i line) k d (omega (arith, length-take i line))

pub digit_in : (c : ℕ) → 48 ≤ c → c ≤ 57 → digit_value c ≡ c - 48
digit_in c l h = search rules

abbrev pub HasLeadingZero : List ℕ → Type 0
HasLeadingZero line = (get_or line 0 0 ≡ 48) × (1 < length line)

one_digit : (line : List ℕ) → 0 < length line → (HasLeadingZero line → ⊥) → get_or line 0 0 ≡ 48 → length line ≡ 1
one_digit line l h z = elim (cases_lt 1 (length line)) [ inl more ↦ absurd (h (z, more)) | inr one ↦ omega arith ]

-- digits without a leading zero are the decimal of their value
pub are_decimal : (line : List ℕ) → AllDigits 10 line → length line ≤ 19 → 0 < length line → (HasLeadingZero line → ⊥) → line ≡ decimal (digits_value 10 line)
are_decimal line d s p z =
    let b = digits_value_short own line 19 d s in
    sym (decimal-digits_value own line d p (one_digit line p z) (omega arith))

-- the whole line is read
pub is_read : (line : List ℕ) (i v : ℕ) → length line ≤ i → length line ≤ 19 → AllDigits 10 (take i line) × (v ≡ digits_value 10 (take i line)) → 0 < length line → (HasLeadingZero line → ⊥) → (v < 10 ^ 19) × (line ≡ decimal v)
is_read line i v l s h p z =
    let g : AllDigits 10 line × (v ≡ digits_value 10 line) = subst (λ (x : List ℕ). AllDigits 10 x × (v ≡ digits_value 10 x)) (take_all i line l) h in
    rw (g.1) (digits_value_short own line 19 g.0 s, are_decimal line g.0 s p z)

-- ---- of a line of 20 digits

-- its front of 19 digits, and the last
pub record InTwo (line : List ℕ) (n : ℕ) : Type 0 where
  pub front : take 19 line ≡ decimal (n / 10)
  pub last : get_or line 19 0 ≡ 48 + n % 10

pub in_two : (line : List ℕ) (n : ℕ) → n < 2 ^ 64 → line ≡ decimal n → length line ≡ 20 → InTwo line n
in_two line n h e l =
    let low : 10 ≤ n = is_long line n h e (omega arith) in
    let s : line ≡ decimal (n / 10) ++ (48 + n % 10) ∷ [] = e ∙ decimal_step n low h in
    let w : length (decimal (n / 10)) ≡ 19 = omega (arith, ap length s, length_push (decimal (n / 10)) (48 + n % 10)) in
    record { front = ap (take 19) s ∙ take_at (decimal (n / 10)) ((48 + n % 10) ∷ []) 19 w; last = ap (λ (x : List ℕ). get_or x 19 0) s ∙ get_or_at (decimal (n / 10)) (48 + n % 10) [] 0 19 w }

-- a front of 19 digits and one digit more
pub put_together : (line : List ℕ) (tenth : ℕ) → length line ≡ 20 → take 19 line ≡ decimal tenth → tenth < 10 ^ 19 → 48 ≤ get_or line 19 0 → get_or line 19 0 ≤ 57 → tenth * 10 + (get_or line 19 0 - 48) < 2 ^ 64 → line ≡ decimal (tenth * 10 + (get_or line 19 0 - 48))
put_together line tenth l e t low high small =
    let last = get_or line 19 0 in
    let v = tenth * 10 + (last - 48) in
    let more : 10 ≤ tenth = is_long (take 19 line) tenth (omega arith) e (omega (arith, length-take 19 line)) in
    let quotient : v / 10 ≡ tenth = omega arith in
    let digit : 48 + v % 10 ≡ last = omega arith in
    let joined : decimal v ≡ decimal tenth ++ last ∷ [] = decimal_step v (omega arith) small ∙ rw (quotient, digit) refl in
    sym (take_all 20 line (omega arith)) ∙ take_more line 19 0 (omega arith) ∙ ap (λ (x : List ℕ). x ++ last ∷ []) e ∙ sym joined

pub ruleset spelled = (is_not_empty, is_zero, is_digit, same_value, is_read, so_far_below, digit_in, put_together, digits_more, digits_value_more)

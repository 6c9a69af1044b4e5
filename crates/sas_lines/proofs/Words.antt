-- Splitting at single spaces is the inverse of joining; a decimal contains no space.
use Rattle.sas_lines.proofs.Imports.{◌≡◌, ℕ, zero, suc, ◌+◌, ◌<◌, ◌≤◌, ◌^◌, ◌≢◌, Bool, true, false, cond, eqb, List, [], ◌∷◌, ◌++◌, length, refl, sym, ap, ◌∙◌, arith, Option, Some, None, inl, inr, AllByRecursion, ◌/◌, ◌%◌, nat_lt, decimal, digits, digits_onto, digit_glyph, AllDigits, digits_value, eqb-true, ne_eqb, cases_lt, digits_decimal, decimal_injective, decimal_is_IsNumeral, Without, onto_first, segments, signed_decimal, joined, decimal_is_IsNumeral_wide, length-decimal-le, digit_from_value, IfSome}
use Rattle.sas_lines.proofs.Separated.{segments-first, segments-only, segments-some}
use Rattle.sas_lines.proofs.Digits.{own}

abbrev pub NoSpace : List ℕ → Type 0
NoSpace bytes = Without 32 bytes

pub words-first : (w rest : List ℕ) → NoSpace w → segments 32 (w ++ 32 ∷ rest) ≡ w ∷ segments 32 rest
words-first w rest h = segments-first 32 w rest h

pub words-joined : (w : List ℕ) (ws : List (List ℕ)) → NoSpace w → AllByRecursion NoSpace ws → segments 32 (joined (w ∷ ws)) ≡ w ∷ ws
words-joined w [] h g = segments-only 32 w h
words-joined w (v ∷ ws) h g = words-first w (joined (v ∷ ws)) h ∙ ap (λ (l : List (List ℕ)). w ∷ l) (words-joined v ws g.0 g.1)

-- words without a space can be separated again from what they are joined to
pub same_words : (w v : List ℕ) (ws vs : List (List ℕ)) → NoSpace w → AllByRecursion NoSpace ws → NoSpace v → AllByRecursion NoSpace vs → joined (w ∷ ws) ≡ joined (v ∷ vs) → w ∷ ws ≡ v ∷ vs
same_words w v ws vs h g i j e = sym (words-joined w ws h g) ∙ ap (segments 32) e ∙ words-joined v vs i j

pub same_first : (w v a b : List ℕ) → NoSpace w → NoSpace v → w ++ 32 ∷ a ≡ v ++ 32 ∷ b → (w ≡ v) × (segments 32 a ≡ segments 32 b)
same_first w v a b h i e = let l : w ∷ segments 32 a ≡ v ∷ segments 32 b = sym (words-first w a h) ∙ ap (segments 32) e ∙ words-first v b i in (cc, cc)

joined-push : (b : ℕ) (ws : List (List ℕ)) → joined (onto_first b ws) ≡ b ∷ joined ws
joined-push b [] = refl
joined-push b (w ∷ []) = refl
joined-push b (w ∷ v ∷ ws) = refl

joined_by : (t : Bool) (b : ℕ) (w : List ℕ) (ws : List (List ℕ)) → eqb b 32 ≡ t → joined (cond t ([] ∷ w ∷ ws) (onto_first b (w ∷ ws))) ≡ b ∷ joined (w ∷ ws)
joined_by true b w ws e = ap (λ (x : ℕ). x ∷ joined (w ∷ ws)) (sym (eqb-true b 32 e))
joined_by false b w ws e = joined-push b (w ∷ ws)

-- the segments joined again are the line
pub joined-words : (line : List ℕ) → joined (segments 32 line) ≡ line
unfolding segments
joined-words [] = refl
joined-words (b ∷ bytes) =
    let s = segments-some 32 bytes in
    ap (λ (x : List (List ℕ)). joined (cond (eqb b 32) ([] ∷ x) (onto_first b x))) s.are ∙ joined_by (eqb b 32) b s.first s.others refl ∙ ap (λ (x : List ℕ). b ∷ x) (ap joined (sym s.are) ∙ joined-words bytes)

-- ---- numbers

glyph_above : (separator d : ℕ) (below_ten : Bool) → separator < 48 → cond below_ten (48 + d) (87 + d) ≢ separator
glyph_above separator d true l = omega arith
glyph_above separator d false l = omega arith

without_either : (separator : ℕ) (here : Bool) (a b : List ℕ) → Without separator a → Without separator b → Without separator (cond here a b)
without_either separator true a b h g = h
without_either separator false a b h g = g

without_onto : (separator k n : ℕ) (acc : List ℕ) → separator < 48 → Without separator acc → Without separator (digits_onto k 10 false n acc)
without_onto separator zero n acc l h = h
without_onto separator (suc k) n acc l h =
    let more : Without separator (digit_glyph false (n % 10) ∷ acc) = (glyph_above separator (n % 10) (nat_lt (n % 10) 10) l, h) in
    without_either separator (eqb (n / 10) 0) (digit_glyph false (n % 10) ∷ acc) (digits_onto k 10 false (n / 10) (digit_glyph false (n % 10) ∷ acc))
    more (without_onto separator k (n / 10) (digit_glyph false (n % 10) ∷ acc) l more)

-- a decimal holds no byte below the digits
pub Without-decimal : (separator n : ℕ) → separator < 48 → Without separator (decimal n)
unfolding digits
Without-decimal separator n l = without_onto separator 64 n [] l tt

pub NoSpace-decimal : (n : ℕ) → NoSpace (decimal n)
NoSpace-decimal n = Without-decimal 32 n (omega arith)

pub NoSpace-number : (n : ℕ) → n < 2 ^ 31 → NoSpace (decimal n)
NoSpace-number n h = NoSpace-decimal n

pub NoSpace-signed : (n : Option ℕ) → IfSome n (λ k. k < 2 ^ 31) → NoSpace (signed_decimal n)
NoSpace-signed None h = (omega arith, (omega arith, tt))
NoSpace-signed (Some n) h = NoSpace-number n h

pub ten_pos : (k : ℕ) → 0 < 10 ^ k
ten_pos zero = omega arith
ten_pos (suc k) = let h = ten_pos k in omega (arith, h)

-- a number of more than 64 digits has its last 64 as its decimal
long_onto : (k n : ℕ) (acc : List ℕ) → 10 ^ k ≤ n → length (digits_onto k 10 false n acc) ≡ k + length acc
long_onto zero n acc l = let e : length acc ≡ 0 + length acc = omega arith in e
long_onto (suc k) n acc l =
    let power = ten_pos k in
    let more : 10 ^ k ≤ n / 10 = omega arith in
    let some : eqb (n / 10) 0 ≡ false = ne_eqb (n / 10) 0 (omega (arith, power)) in
    let rest = long_onto k (n / 10) (digit_glyph false (n % 10) ∷ acc) more in
    ap (λ (here : Bool). length (cond here (digit_glyph false (n % 10) ∷ acc) (digits_onto k 10 false (n / 10) (digit_glyph false (n % 10) ∷ acc)))) some
    ∙ rest ∙ (let e : k + suc (length acc) ≡ suc k + length acc = omega arith in e)

long_decimal : (n : ℕ) → 10 ^ 64 ≤ n → length (decimal n) ≡ 64
unfolding digits
long_decimal n l = long_onto 64 n [] l

-- so a number that a u64 holds has a decimal of its own among all numbers
pub own_decimal : (m n : ℕ) → m < 2 ^ 64 → decimal m ≡ decimal n → m ≡ n
own_decimal m n f e = elim (cases_lt n (10 ^ 64)) [
  | inr long ↦ absurd (let short = length-decimal-le 20 m (omega arith) (omega arith) f in omega (arith, short, long_decimal n long, ap length e))
  | inl below ↦ sym (decimal_is_IsNumeral m f).1 ∙ ap (digits_value 10) e ∙ (decimal_is_IsNumeral_wide n below).1
]

no_minus : (ds more : List ℕ) → AllDigits 10 ds → ds ≡ 45 ∷ more → ⊥
no_minus [] more h e = absurd cc
no_minus (d ∷ ds) more h e = let r = digit_from_value d h.0 in let k : d ≡ 45 = cc in omega (arith, r.0)

pub decimal_no_minus : (n : ℕ) (more : List ℕ) → n < 2 ^ 64 → decimal n ≡ 45 ∷ more → ⊥
decimal_no_minus n more h e = no_minus (decimal n) more (digits_decimal own n h) e

pub same_signed : (m n : Option ℕ) → IfSome m (λ k. k < 2 ^ 31) → IfSome n (λ k. k < 2 ^ 31) → signed_decimal m ≡ signed_decimal n → m ≡ n
same_signed None None f g e = refl
same_signed None (Some n) f g e = absurd (decimal_no_minus n _ (omega arith) (sym e))
same_signed (Some m) None f g e = absurd (decimal_no_minus m _ (omega arith) e)
same_signed (Some m) (Some n) f g e = ap (λ (x : ℕ). Some x) (decimal_injective m n (omega arith) (omega arith) e)

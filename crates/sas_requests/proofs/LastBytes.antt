-- The last byte of a line: a number ends in a digit, and a refusal in a letter.
use Rattle.sas_requests.proofs.Imports.{◌≡◌, ℕ, zero, suc, ◌<◌, ◌≤◌, Bool, true, false, cond, eqb, List, [], ◌∷◌, ◌++◌, codes, refl, sym, subst, arith, get_or, Some, ◌/◌, ◌%◌, nat_lt, digits, digits_onto, digit_glyph, lt-ltb, none-some, LayerFault, Kind, layer_words, words_at_part, word_of}
use Rattle.std.proofs.lemmas.Grind.{common_steps}
use Rattle.std.specs.Fmt.{decimal}
use Rattle.sas_meaning.specs.declared.layered.LayerFault.TheVariants as layer_fault

-- the last byte, or 0
abbrev pub last : List ℕ → ℕ
last [] = 0
last (byte ∷ []) = byte
last (byte ∷ next ∷ bytes) = last (next ∷ bytes)

last-append : (a : List ℕ) (byte : ℕ) (bytes : List ℕ) → last (a ++ byte ∷ bytes) ≡ last (byte ∷ bytes)
last-append [] byte bytes = refl
last-append (x ∷ []) byte bytes = refl
last-append (x ∷ y ∷ a) byte bytes = last-append (y ∷ a) byte bytes

-- ---- a digit

-- the byte is one
abbrev pub IsDigit : ℕ → Type 0
IsDigit byte = (48 ≤ byte) × (byte < 58)

last_either : (here : Bool) (a b : List ℕ) (byte : ℕ) → last a ≡ byte → last b ≡ byte → last (cond here a b) ≡ byte
last_either true a b byte e f = e
last_either false a b byte e f = f

last_onto : (k n byte : ℕ) (bytes : List ℕ) → last (digits_onto k 10 false n (byte ∷ bytes)) ≡ last (byte ∷ bytes)
last_onto zero n byte bytes = refl
last_onto (suc k) n byte bytes =
    last_either (eqb (n / 10) 0) (digit_glyph false (n % 10) ∷ byte ∷ bytes) (digits_onto k 10 false (n / 10) (digit_glyph false (n % 10) ∷ byte ∷ bytes))
    (last (byte ∷ bytes)) refl (last_onto k (n / 10) (digit_glyph false (n % 10)) (byte ∷ bytes))

glyph_digit : (d : ℕ) → d < 10 → IsDigit (digit_glyph false d)
glyph_digit d less = grind (arith, nat_lt, lt-ltb, true, cond, false)

first_of : (here : Bool) (a b : List ℕ) → IsDigit (get_or a 0 0) → IsDigit (get_or b 0 0) → IsDigit (get_or (cond here a b) 0 0)
first_of true a b e f = e
first_of false a b e f = f

-- a decimal ends in one
pub decimal_digit : (n : ℕ) → IsDigit (last (decimal n))
unfolding digits
decimal_digit n =
    subst IsDigit (sym (last_either (eqb (n / 10) 0) (digit_glyph false (n % 10) ∷ []) (digits_onto 63 10 false (n / 10) (digit_glyph false (n % 10) ∷ []))
    (digit_glyph false (n % 10)) refl (last_onto 63 (n / 10) (digit_glyph false (n % 10)) [])))
    (glyph_digit (n % 10) (omega arith))

-- and begins with one
first_onto : (k n : ℕ) (ds : List ℕ) → IsDigit (get_or ds 0 0) → IsDigit (get_or (digits_onto k 10 false n ds) 0 0)
first_onto zero n ds digit = digit
first_onto (suc k) n ds digit = first_of (eqb (n / 10) 0) (digit_glyph false (n % 10) ∷ ds) (digits_onto k 10 false (n / 10) (digit_glyph false (n % 10) ∷ ds))
    (glyph_digit (n % 10) (omega arith)) (first_onto k (n / 10) (digit_glyph false (n % 10) ∷ ds) (glyph_digit (n % 10) (omega arith)))

pub decimal_first : (n : ℕ) → IsDigit (get_or (decimal n) 0 0)
unfolding digits
decimal_first n = first_of (eqb (n / 10) 0) (digit_glyph false (n % 10) ∷ []) (digits_onto 63 10 false (n / 10) (digit_glyph false (n % 10) ∷ []))
    (glyph_digit (n % 10) (omega arith)) (first_onto 63 (n / 10) (digit_glyph false (n % 10) ∷ []) (glyph_digit (n % 10) (omega arith)))

-- what ends in a byte above 0 ends so behind others
last_behind : (a b : List ℕ) → 0 < last b → last (a ++ b) ≡ last b
last_behind a [] some = absurd (omega arith)
last_behind a (byte ∷ bytes) some = last-append a byte bytes

pub digit_behind : (a : List ℕ) (n : ℕ) → IsDigit (last (a ++ decimal n))
digit_behind a n = let d = decimal_digit n in subst IsDigit (sym (last_behind a (decimal n) (omega (arith, d.0)))) d

-- ---- a letter

-- the bytes end in one, and in no digit
abbrev pub EndsInLetter : List ℕ → Type 0
EndsInLetter bytes = 96 < last bytes

pub letter_behind : (a b : List ℕ) → EndsInLetter b → EndsInLetter (a ++ b)
letter_behind a b h = subst (λ (byte : ℕ). 96 < byte) (sym (last_behind a b (omega (arith, h)))) h

some_letter : (x w : List ℕ) → Some x ≡ Some w → EndsInLetter x → EndsInLetter w
some_letter x w e h = subst EndsInLetter (let same : x ≡ w = cc in same) h

pub kind_letter : (kind : Kind) (w : List ℕ) → word_of kind ≡ Some w → EndsInLetter w
kind_letter kind w e = grind (arith, common_steps, some_letter, none-some)

part_letter : (part : List ℕ) (place : ℕ) (what w : List ℕ) → EndsInLetter what → Some (words_at_part part place what) ≡ Some w → EndsInLetter w
part_letter part place what w h e = some_letter (words_at_part part place what) w e (letter_behind (part ++ codes " " ++ decimal place ++ codes ": ") what h)

pub layer_letter : (fault : LayerFault) (w : List ℕ) → layer_words fault ≡ Some w → EndsInLetter w
layer_letter (layer_fault.EffectOnDerived operator effect) w e = part_letter (codes "operator") operator (codes "effect on derived variable") w (omega arith) e
layer_letter (layer_fault.RuleOnBasic rule) w e = part_letter (codes "rule") rule (codes "not on a derived variable") w (omega arith) e
layer_letter (layer_fault.OldValue rule) w e = part_letter (codes "rule") rule (codes "old value") w (omega arith) e
layer_letter (layer_fault.TwoValues rule) w e = part_letter (codes "rule") rule (codes "two values") w (omega arith) e
layer_letter (layer_fault.LayerOrder rule condition) w e = part_letter (codes "rule") rule (codes "layer order") w (omega arith) e
layer_letter layer_fault.Memory w e = absurd (none-some w e)

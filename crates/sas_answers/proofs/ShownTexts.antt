-- Texts as they are shown: byte by byte, except for a space at the end of a whole text. They hold neither LF nor CR.
use Rattle.sas_answers.proofs.Imports.{◌≡◌, ◌≢◌, ℕ, ◌+◌, ◌-◌, ◌/◌, ◌%◌, ◌<◌, ◌≤◌, Bool, true, false, List, [], ◌∷◌, ◌++◌, ◌==◌, ◌&&◌, not, nat_lt, length, take, drop, append_assoc, append-nil, codes, flat_map, refl, sym, ap, subst, ◌∙◌, eqb-true, arith, length-append, if◌then◌else◌, nat_eq, pointwise, same_text, other_text, take-append-drop, drop-append_seam, take_all, IsTrue, list_all, and_from, and_parts, ne_eqb, ltb-true, lt-ltb, le-ltb, is_plain, IsPlain, plain-append, Places, hex_digit_of, in_digits, is_plain_byte, shown_byte, shown_whole, shown, shown_name}

behind_front : (front : List ℕ) → shown_whole (front ++ 32 ∷ []) ≡ flat_map shown_byte front ++ in_digits 32
behind_front [] = refl
behind_front (b ∷ []) = ap (λ (l : List ℕ). l ++ in_digits 32) (sym (append-nil (shown_byte b)))
behind_front (b ∷ next ∷ front) =
    ap (λ (l : List ℕ). shown_byte b ++ l) (behind_front (next ∷ front))
    ∙ sym (append_assoc (shown_byte b) (flat_map shown_byte (next ∷ front)) (in_digits 32))

-- the last byte is a space
pub space_at_end : (bytes front : List ℕ) → pointwise nat_eq (drop (length bytes - 1) bytes) (32 ∷ []) ≡ true → front ≡ take (length bytes - 1) bytes
    → shown_whole bytes ≡ flat_map shown_byte front ++ codes "\\x20"
space_at_end bytes front same is =
    let n = length bytes - 1 in
    ap (shown_whole) (sym (take-append-drop n bytes))
    ∙ ap (λ (l : List ℕ). shown_whole (take n bytes ++ l)) (same_text _ _ (sym same))
    ∙ behind_front (take n bytes)
    ∙ ap (λ (l : List ℕ). flat_map shown_byte l ++ in_digits 32) (sym is)

by_bytes : (bytes : List ℕ) → ((front : List ℕ) → bytes ≢ front ++ 32 ∷ []) → shown_whole bytes ≡ flat_map shown_byte bytes
by_bytes [] none = refl
by_bytes (b ∷ []) none = other (b == 32) (λ is. none [] (ap (λ (x : ℕ). x ∷ []) (eqb-true b 32 is)))
  where
    other : (is : Bool) → (is ≡ true → ⊥) → (if is then in_digits b else shown_byte b) ≡ shown_byte b ++ []
    other true not_so = absurd (not_so refl)
    other false not_so = sym (append-nil (shown_byte b))
by_bytes (b ∷ next ∷ bytes) none =
    ap (λ (l : List ℕ). shown_byte b ++ l) (by_bytes (next ∷ bytes) (λ front is. none (b ∷ front) (ap (λ (l : List ℕ). b ∷ l) is)))

-- the last byte isn't a space
pub no_space_at_end : (bytes : List ℕ) → pointwise nat_eq (drop (length bytes - 1) bytes) (32 ∷ []) ≡ false → shown_whole bytes ≡ flat_map shown_byte bytes ++ []
no_space_at_end bytes other = by_bytes bytes (λ front is.
    let n : length bytes - 1 ≡ length front = omega (arith, ap length is, length-append front (32 ∷ [])) in
    other_text _ _ (sym other) (ap (λ (k : ℕ). drop k bytes) n ∙ ap (drop (length front)) is ∙ drop-append_seam front (32 ∷ [])))
    ∙ sym (append-nil (flat_map shown_byte bytes))

-- each byte is shown as it is
as_they_are : (bytes : List ℕ) → list_all is_plain_byte bytes ≡ true → flat_map shown_byte bytes ≡ bytes
as_they_are [] all = refl
as_they_are (b ∷ bytes) all =
    let both = and_parts (is_plain_byte b) (list_all is_plain_byte bytes) all in
    ap (λ (is : Bool). (if is then b ∷ [] else in_digits b) ++ flat_map shown_byte bytes) both.0 ∙ ap (λ (l : List ℕ). b ∷ l) (as_they_are bytes both.1)

-- ---- no line ends

above : (b : ℕ) → 13 < b → IsTrue (is_plain b)
above b h = and_from (not (b == 10)) (not (b == 13)) (ap not (ne_eqb b 10 (λ e. omega (arith, e, h)))) (ap not (ne_eqb b 13 (λ e. omega (arith, e, h))))

digit_plain : (n : ℕ) → IsTrue (is_plain (hex_digit_of n))
digit_plain n = either (nat_lt n 10)
  where
    either : (low : Bool) → IsTrue (is_plain (if low then 48 + n else 87 + n))
    either true = above (48 + n) (omega arith)
    either false = above (87 + n) (omega arith)

digits_plain : (b : ℕ) → IsPlain (in_digits b)
digits_plain b =
    let last = hex_digit_of (b % 16) in
    and_from (is_plain (hex_digit_of (b / 16))) (list_all is_plain (last ∷ [])) (digit_plain (b / 16)) (and_from (is_plain last) true (digit_plain (b % 16)) refl)

byte_plain : (b : ℕ) → IsPlain (shown_byte b)
byte_plain b = either (nat_lt 31 b) (nat_lt b 127) (not (b == 92)) (λ h. above b (let over = ltb-true 31 b h in omega (arith, over)))
  where
    either : (over under other : Bool) → (IsTrue over → IsTrue (is_plain b)) → IsPlain (if over && under && other then b ∷ [] else in_digits b)
    either false under other h = digits_plain b
    either true false other h = digits_plain b
    either true true false h = digits_plain b
    either true true true h = and_from (is_plain b) true (h refl) refl

bytes_plain : (bytes : List ℕ) → IsPlain (flat_map shown_byte bytes)
bytes_plain [] = refl
bytes_plain (b ∷ bytes) = plain-append (shown_byte b) (flat_map shown_byte bytes) (byte_plain b) (bytes_plain bytes)

whole_plain : (bytes : List ℕ) → IsPlain (shown_whole bytes)
whole_plain [] = refl
whole_plain (b ∷ []) = either (b == 32)
  where
    either : (is_space : Bool) → IsPlain (if is_space then in_digits b else shown_byte b)
    either true = digits_plain b
    either false = byte_plain b
whole_plain (b ∷ next ∷ bytes) = plain-append (shown_byte b) (shown_whole (next ∷ bytes)) (byte_plain b) (whole_plain (next ∷ bytes))

pub shown_plain : (most : ℕ) (text : List ℕ) → IsPlain (shown most text)
shown_plain most text = either (nat_lt most (length text))
  where
    either : (more : Bool) → IsPlain (if more then flat_map shown_byte (take most text) ++ codes " .." else shown_whole text)
    either true = plain-append (flat_map shown_byte (take most text)) (codes " ..") (bytes_plain (take most text)) refl
    either false = whole_plain text

-- ---- long texts and short ones

abbrev cut_or_whole : (most : ℕ) (text : List ℕ) (more : Bool) → List ℕ
cut_or_whole most text more = if more then flat_map shown_byte (take most text) ++ codes " .." else shown_whole text

pub shown_long : (most : ℕ) (text : List ℕ) → most < length text → flat_map shown_byte (take most text) ++ codes " .." ≡ shown most text
shown_long most text h = ap (cut_or_whole most text) (sym (lt-ltb most (length text) h))

pub shown_short : (most : ℕ) (text : List ℕ) → length text ≤ most → shown_whole text ≡ shown most text
shown_short most text h = ap (cut_or_whole most text) (sym (le-ltb most (length text) h))

pub usual_name : (name : List ℕ) → length name ≤ 256 → pointwise nat_eq (drop (length name - 1) name) (32 ∷ []) ≡ false → list_all is_plain_byte name ≡ true → shown_name name ≡ name
usual_name name h other all = sym (shown_short 256 name h) ∙ no_space_at_end name other ∙ append-nil (flat_map shown_byte name) ∙ as_they_are name all

-- the same bytes in other words
pub placed_as : (old new x whole : List ℕ) (end : ℕ) → x ≡ whole → Places old new 0 x end → Places old new 0 whole end
placed_as old new x whole end e placed = subst (λ (l : List ℕ). Places old new 0 l end) e placed

-- What the result of a search for LF and CR means for the bytes.
use Rattle.std.proofs.lemmas.Grind.{common_steps}
use Rattle.sas_core.proofs.Imports.{◌≡◌, ℕ, Bool, true, false, not, ◌&&◌, ◌||◌, ◌==◌, List, Option, Some, None, get_or, refl, sym, ◌∙◌, ap, arith, list_all, is_some, list_all_at, All-from_get_or, list_all-from_AllPass, IsFirstByte, is_byte2, is_plain}

neither : (a b : Bool) → (not a && not b) ≡ not (a || b)
neither true b = refl
neither false b = refl

is_plain-not_found : (byte : ℕ) → is_plain byte ≡ not (is_byte2 10 13 byte)
is_plain-not_found byte = neither (byte == 10) (byte == 13)

not-refuted : (b : Bool) → (b ≡ true → ⊥) → not b ≡ true
not-refuted true never = absurd (never refl)
not-refuted false _ = refl

not-twice : (b : Bool) → b ≡ not (not b)
not-twice true = refl
not-twice false = refl

-- a search for LF and CR finds a byte where some byte is one of these
is_some-search : (bytes : List ℕ) (found : Option ℕ) → IsFirstByte (is_byte2 10 13) bytes found → is_some found ≡ not (list_all is_plain bytes)
is_some-search bytes None nowhere =
    ap not (sym (list_all-from_AllPass is_plain bytes (All-from_get_or (λ byte. is_plain byte ≡ true) bytes 0 (λ k below.
    is_plain-not_found (get_or bytes k 0) ∙ not-refuted _ (nowhere k (omega arith) below)))))
is_some-search bytes (Some k) here = grind (arith, common_steps, list_all_at, is_plain-not_found)

-- it finds none exactly where each byte is plain
pub is_none-search : (bytes : List ℕ) (found : Option ℕ) (none : Bool) → IsFirstByte (is_byte2 10 13) bytes found → is_some found ≡ not none → none ≡ list_all is_plain bytes
is_none-search bytes found none first said = grind (arith, common_steps, not-twice, is_some-search)

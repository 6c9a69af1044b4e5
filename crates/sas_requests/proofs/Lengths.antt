-- How long a number is as a text. And the lines of some bytes aren't longer than the bytes.
use Rattle.std.proofs.lemmas.Grind.{common_steps}
use Rattle.sas_requests.proofs.Imports.{ℕ, suc, zero, decimal, ◌/◌, ◌%◌, digits, digits_onto, digit_glyph, ◌+◌, ◌≤◌, Bool, true, false, ◌==◌, if◌then◌else◌, List, [], ◌∷◌, ◌++◌, length, length-append, arith, text, lines, lines_among, without_return, segments, onto_first}

-- a number is spelled in 64 digits at most
either_short : (last : Bool) (front more : List ℕ) (most : ℕ) → length front ≤ most → length more ≤ most → length (if last then front else more) ≤ most
either_short true front more most f m = f
either_short false front more most f m = m

onto_short : (k n : ℕ) (acc : List ℕ) → length (digits_onto k 10 false n acc) ≤ k + length acc
onto_short zero n acc = omega arith
onto_short (suc k) n acc =
    let with : List ℕ = digit_glyph false (n % 10) ∷ acc in
    either_short (n / 10 == 0) with (digits_onto k 10 false (n / 10) with) (suc k + length acc) (omega arith) (omega (arith, onto_short k (n / 10) with))

pub decimal_short : (n : ℕ) → length (decimal n) ≤ 64
unfolding digits
decimal_short n = onto_short 64 n []

without_short : (bytes : List ℕ) → length (without_return bytes) ≤ length bytes
without_short [] = omega arith
without_short (b ∷ []) = only (b == 13)
  where
    only : (ends : Bool) → length (if ends then [] else b ∷ []) ≤ 1
    only true = omega arith
    only false = omega arith
without_short (b ∷ c ∷ bytes) = omega (arith, without_short (c ∷ bytes))

-- the length of these parts and of the separators between them, plus one
spread : List (List ℕ) → ℕ
spread [] = 1
spread (p ∷ []) = length p + 1
spread (p ∷ q ∷ ps) = length p + 1 + spread (q ∷ ps)

among_short : (ps : List (List ℕ)) → length (text (lines_among ps)) + 1 ≤ spread ps
unfolding spread
among_short [] = omega arith
among_short (p ∷ []) = omega arith
among_short (p ∷ q ∷ ps) =
    let all = length-append (without_return p ++ 10 ∷ []) (text (lines_among (q ∷ ps))) in
    let first = length-append (without_return p) (10 ∷ []) in
    omega (arith, all, first, without_short p, among_short (q ∷ ps))

spread_onto : (b : ℕ) (ps : List (List ℕ)) → spread (onto_first b ps) ≤ spread ps + 1
unfolding spread
spread_onto b ps = grind (arith, common_steps)

spread_behind : (ps : List (List ℕ)) → spread ([] ∷ ps) ≤ spread ps + 1
unfolding spread
spread_behind [] = omega arith
spread_behind (q ∷ ps) = omega arith

spread_either : (ends : Bool) (b : ℕ) (ps : List (List ℕ)) → spread (if ends then [] ∷ ps else onto_first b ps) ≤ spread ps + 1
spread_either true b ps = spread_behind ps
spread_either false b ps = spread_onto b ps

spread_short : (bytes : List ℕ) → spread (segments 10 bytes) ≤ length bytes + 1
unfolding segments spread
spread_short [] = omega arith
spread_short (b ∷ bytes) = omega (arith, spread_either (b == 10) b (segments 10 bytes), spread_short bytes)

pub text_short : (bytes : List ℕ) → length (text (lines bytes)) ≤ length bytes
unfolding lines
text_short bytes = omega (arith, among_short (segments 10 bytes), spread_short bytes)

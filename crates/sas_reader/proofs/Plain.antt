-- Bytes without LF and CR.
use Rattle.sas_reader.proofs.Imports.{◌≡◌, ℕ, List, [], ◌∷◌, refl, ap, arith, decimal, ne_eqb, NoEnd, without_return, AllByRecursion, Without-decimal, Plain, IsPlain, plain_parts, plain_without}

pub plain-decimal : (n : ℕ) → IsPlain (decimal n)
plain-decimal n = plain_without (decimal n) (Without-decimal 10 n (omega arith)) (Without-decimal 13 n (omega arith))

-- ---- such bytes as a line

pub no_end : (line : List ℕ) → IsPlain line → NoEnd line
no_end [] h = tt
no_end (b ∷ line) h = let parts = plain_parts b line h in (parts.0, no_end line parts.2)

pub no_return : (line : List ℕ) → IsPlain line → without_return line ≡ line
no_return [] h = refl
no_return (b ∷ []) h = rw (ne_eqb b 13 (plain_parts b [] h).1) refl
no_return (b ∷ c ∷ line) h = ap (λ (x : List ℕ). b ∷ x) (no_return (c ∷ line) (plain_parts b (c ∷ line) h).2)

pub plain : (line : List ℕ) → IsPlain line → Plain line
plain line h = record { no_end = no_end line h; no_return = no_return line h }

pub plain_lines : (ls : List (List ℕ)) → AllByRecursion IsPlain ls → AllByRecursion Plain ls
plain_lines [] h = tt
plain_lines (l ∷ ls) h = (plain l h.0, plain_lines ls h.1)

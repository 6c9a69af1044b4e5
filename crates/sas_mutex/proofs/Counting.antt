-- The number of groups in the family after one is removed.
use Rattle.sas_mutex.proofs.Imports.{◌≡◌, ℕ, ◌+◌, ◌≤◌, Bool, true, false, List, [], ◌∷◌, length, get_or, set, sym, zero, suc, arith, true≢false, count}

pub count_fell : (kept : List Bool) (place : ℕ) → get_or kept place false ≡ true → count (set kept place false) + 1 ≡ count kept
count_fell [] place is = absurd (true≢false (sym is))
count_fell (true ∷ rest) zero is = omega arith
count_fell (false ∷ rest) zero is = absurd (true≢false (sym is))
count_fell (kept ∷ rest) (suc place) is = let ih = count_fell rest place is in omega arith

pub count_within : (kept : List Bool) → count kept ≤ length kept
count_within [] = omega arith
count_within (true ∷ rest) = let ih = count_within rest in omega arith
count_within (false ∷ rest) = let ih = count_within rest in omega arith

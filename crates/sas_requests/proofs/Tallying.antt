-- One plan more in a tally; and what a tally says of all plans.
use Rattle.sas_requests.proofs.Imports.{◌≡◌, ◌≢◌, ℕ, ◌+◌, Bool, true, false, cond, List, [], ◌∷◌, ◌++◌, length, refl, sym, ◌∙◌, arith, Option, Some, None, count_by, is_some, if◌then◌else◌, list_all, All-nil, append-nil, append_assoc, sum_by-cons, sum_by_push, count_by-le-length, Yes, No, Tally, Tallies, tally_with}
use Rattle.sas_requests.proofs.BestPlans.{one_best, best_stays, best_next}

-- 1 for a plan that is valid
abbrev one_if_valid : Option ℕ → ℕ
one_if_valid cost = cond (is_some cost) 1 0

-- ---- one plan more

count_behind : (all : List (Option ℕ)) (cost : Option ℕ) → count_by is_some (all ++ cost ∷ []) ≡ count_by is_some all + cond (is_some cost) 1 0
count_behind all cost = grind (arith, sum_by_push, count_by, cond, is_some)

pub tally_next : (all : List (Option ℕ)) (cost : Option ℕ) (tally : Tally) → Tallies all tally → Tallies (all ++ cost ∷ []) (tally_with (length all) cost tally)
tally_next all None tally h = record { valid = omega (arith, h.valid, count_behind all None); best = best_stays all tally.best h.best }
tally_next all (Some cost) tally h = record { valid = omega (arith, h.valid, count_behind all (Some cost)); best = best_next all cost tally.best h.best }

-- ---- one tally

pub one_tally : (all : List (Option ℕ)) (s t : Tally) → Tallies all s → Tallies all t → s ≡ t
one_tally all s t h g = grind (arith, one_best)

tally_on : (front all : List (Option ℕ)) (tally : Tally) → Tallies front tally → (t : Tally) × Tallies (front ++ all) t
tally_on front [] tally h = (tally, rw (append-nil front) h)
tally_on front (j ∷ all) tally h =
    rw (← append_assoc front (j ∷ []) all) (tally_on (front ++ j ∷ []) all (tally_with (length front) j tally) (tally_next front j tally h))

pub some_tally : (all : List (Option ℕ)) → (t : Tally) × Tallies all t
some_tally all = tally_on [] all (record { valid = 0; best = None }) (record { valid = refl; best = All-nil (λ (j : Option ℕ). j ≡ None) })

-- ---- all plans are valid, or one isn't

all_by : (valid : Bool) (rest : List (Option ℕ)) → cond valid 1 0 + count_by is_some rest ≡ 1 + length rest → (valid ≡ true) × (count_by is_some rest ≡ length rest)
all_by true rest e = (refl, omega arith)
all_by false rest e = absurd (omega (arith, count_by-le-length is_some rest))

all_valid : (all : List (Option ℕ)) → count_by is_some all ≡ length all → list_all is_some all ≡ true
all_valid [] e = refl
all_valid (j ∷ all) e =
    let parts = all_by (is_some j) all (omega (arith, sum_by-cons one_if_valid j all)) in
    rw (parts.0, all_valid all parts.1) refl

some_by : (valid : Bool) (all : List (Option ℕ)) → cond valid 1 0 + count_by is_some all ≢ 1 + length all → valid ≡ true → count_by is_some all ≢ length all
some_by true all other e same = other (omega arith)
some_by false all other e same = absurd cc

none_valid : (j : Option ℕ) (all : List (Option ℕ)) (valid : Bool) → is_some j ≡ valid → count_by is_some (j ∷ all) ≢ length (j ∷ all) → (count_by is_some all ≢ length all → list_all is_some all ≡ false) → list_all is_some (j ∷ all) ≡ false
none_valid j all true e other rest = rw (e, rest (some_by (is_some j) all (λ same. other (omega (arith, sum_by-cons one_if_valid j all))) e)) refl
none_valid j all false e other rest = rw e refl

one_invalid : (all : List (Option ℕ)) → count_by is_some all ≢ length all → list_all is_some all ≡ false
one_invalid [] other = absurd (other refl)
one_invalid (j ∷ all) other = none_valid j all (is_some j) refl other (one_invalid all)

-- the status by how many are valid
pub status_yes : (all : List (Option ℕ)) (count : ℕ) → length all ≡ count → count_by is_some all ≡ count → Yes ≡ (if list_all is_some all then Yes else No)
status_yes all count many e = rw (all_valid all (e ∙ sym many)) refl

pub status_no : (all : List (Option ℕ)) (count : ℕ) → length all ≡ count → count_by is_some all ≢ count → No ≡ (if list_all is_some all then Yes else No)
status_no all count many e = rw (one_invalid all (λ same. e (same ∙ many))) refl

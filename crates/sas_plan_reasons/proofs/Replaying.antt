-- The changes, written over the values before, give the values behind the step.
use Rattle.sas_plan_reasons.proofs.Imports.{Parts, Run, StepsSucceed, WellRanged, replayed, ◌≡◌, ℕ, zero, suc, ◌+◌, ◌<◌, ◌≤◌, Bool, true, false, List, ◌∷◌, length, map, filter, get_or, refl, sym, ◌∙◌, ap, arith, fold, slice_set, slice_index, cond, range_with_len, cases_eq, same_number_lists, length-map-range_with_len, get_or-map-range_with_len, add-one, state_at, state_fits, is_changed, changed}
use Rattle.std.proofs.Common.{get_or-set_other, get_or-set_same, length-set}
use Rattle.sas_plan_reasons.proofs.Changing.{is_same, is_other}

-- the values of the initial lines are the state
values_are : (s : List ℕ) (n : ℕ) → length s ≡ n → map (slice_index s) (range_with_len 0 n) ≡ s
values_are s n e = grind (arith, same_number_lists, map, slice_index, range_with_len, length-map-range_with_len, get_or-map-range_with_len)

module _ (s s' : List ℕ) where
  -- a variable gets its value in s'
  abbrev put : List ℕ → ℕ → List ℕ
  put t var = slice_set t var (slice_index s' var)

  one_of : (b : Bool) (t : List ℕ) (var : ℕ) (vars : List ℕ) → fold put t (cond b (var ∷ vars) vars) ≡ fold put (cond b (put t var) t) vars
  one_of true t var vars = refl
  one_of false t var vars = refl

  -- before the variable a the values are those of s', from there on those of s
  record Written (a n : ℕ) (t : List ℕ) : Type 0 where
    fits : length t ≡ a + n
    below : (k : ℕ) → k < a → get_or t k 0 ≡ get_or s' k 0
    above : (k : ℕ) → a ≤ k → get_or t k 0 ≡ get_or s k 0

  -- so it is for one variable more
  next : (a n : ℕ) (t : List ℕ) → Written a (suc n) t → Written (a + 1) n (cond (is_changed s s' a) (slice_set t a (get_or s' a 0)) t)
  next a n t w = grind (arith, cases_eq, get_or, cond, slice_set, is_same, is_other, length-set, get_or-set_same, get_or-set_other)

  writes : (n a : ℕ) (t : List ℕ) → length s' ≡ a + n → Written a n t → fold put t (filter (is_changed s s') (range_with_len a n)) ≡ s'
  writes zero a t fits w = same_number_lists t s' (w.fits ∙ sym fits) (λ k lt. w.below k (let f = w.fits in omega arith))
  writes (suc n) a t fits w = one_of (is_changed s s' a) t a (filter (is_changed s s') (range_with_len (a + 1) n))
      ∙ writes n (a + 1) (cond (is_changed s s' a) (slice_set t a (get_or s' a 0)) t) (omega arith) (next a n t w)

  -- all changes of s
  pub all_written : (n : ℕ) → length s ≡ n → length s' ≡ n → fold put s (filter (is_changed s s') (range_with_len 0 n)) ≡ s'
  all_written n fits fits' = grind (arith, writes)

pub replays : (p : Parts) (run : Run) (k : ℕ) → WellRanged p → StepsSucceed p run → k ≤ length run.steps → replayed p run k ≡ state_at run k
replays p run zero ranged through le = values_are (state_at run 0) (length p.variables) (state_fits p run through 0 le).one_each
replays p run (suc k) ranged through le =
    let e : k + 1 ≡ suc k = add-one k in
    ap (λ (s : List ℕ). fold (put (state_at run k) (state_at run (k + 1))) s (changed p (state_at run k) (state_at run (k + 1)))) (replays p run k ranged through (omega arith))
    ∙ (all_written (state_at run k) (state_at run (k + 1)) (length p.variables) (state_fits p run through k (omega arith)).one_each (state_fits p run through (k + 1) (omega arith)).one_each
    ∙ ap (state_at run) e)

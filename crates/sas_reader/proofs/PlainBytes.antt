-- The bytes before the first that is at most 13, and names of such bytes.
use Rattle.sas_reader.proofs.Imports.{◌≡◌, ℕ, ◌+◌, ◌<◌, ◌≤◌, List, length, sym, ap, ap₂, ◌∙◌, arith, get_or, Bool, true, false, not, ◌==◌, ◌&&◌, map, list_all, list_all-from_AllPass, All-from_get_or, is_plain, IsName, ne_eqb, leb, leb-false, prefix_len, count_trailing_zeros, chunk, mask_l, leading_from_mask_l, trailing_mask_l, length-chunk, run_in_chunk_fails}

-- ---- the bytes before the first that is at most 13

abbrev pub stops : ℕ → Bool
stops b = leb b 13

module _ (bytes : List ℕ) (at mask : ℕ) (room : at + 32 ≤ length bytes) (is : mask ≡ mask_l (map stops (chunk at 32 bytes))) where
  -- thirty-two bytes, or as many as the zeros at the end of the mask
  pub none_stops : mask ≡ 0 → 32 ≡ prefix_len (λ b. not (stops b)) (chunk at 32 bytes)
  none_stops none = sym (leading_from_mask_l stops (chunk at 32 bytes) (sym is ∙ none) ∙ length-chunk at 32 bytes room)

  pub one_stops : (mask ≡ 0 → ⊥) → count_trailing_zeros 64 mask ≡ prefix_len (λ b. not (stops b)) (chunk at 32 bytes)
  one_stops some = ap (count_trailing_zeros 64) is ∙ trailing_mask_l stops 64 (chunk at 32 bytes) (omega (arith, length-chunk at 32 bytes room)) (omega (arith, is, some))

  pub are_plain : (r : ℕ) → r ≡ prefix_len (λ b. not (stops b)) (chunk at 32 bytes) → (k : ℕ) → at ≤ k → k < at + r → 13 < get_or bytes k 0
  are_plain r counted k low high = leb-false _ 13 (run_in_chunk_fails stops bytes at 32 r 0 room counted k low high)

-- ---- a name of bytes above 13

high_is_plain : (b : ℕ) → 13 < b → is_plain b ≡ true
high_is_plain b high = ap₂ (λ x y. not x && not y) (ne_eqb b 10 (λ e. omega (arith, e, high))) (ne_eqb b 13 (λ e. omega (arith, e, high)))

pub plain_name : (w : List ℕ) → 0 < length w → ((k : ℕ) → k < length w → 13 < get_or w k 0) → IsName w
plain_name w some high =
    let all : list_all is_plain w ≡ true = list_all-from_AllPass is_plain w (All-from_get_or (λ b. is_plain b ≡ true) w 0 (λ k below. high_is_plain _ (high k below))) in
    let many : (length w == 0) ≡ false = ne_eqb (length w) 0 (λ e. omega (arith, e, some)) in
    ap₂ (λ x y. not x && y) many all

-- Where a search for a separator stops, and a CR before LF.
use Rattle.sas_lines.proofs.Imports.{◌≡◌, ℕ, zero, suc, ◌+◌, ◌<◌, ◌≢◌, List, [], ◌∷◌, ◌++◌, length, get_or, take, drop, refl, sym, ap, ◌∙◌, arith, inl, inr, eq-eqb, ne_eqb, eqb-true, eqb_tells, length-take, get_or-take, take-append-drop, drop_more, take_more, Nowhere, NoneBefore, Passes, is_byte, without_return, Without, StandsFirst}

pub Without-index : (separator : ℕ) (bytes : List ℕ) → ((k : ℕ) → k < length bytes → get_or bytes k 0 ≢ separator) → Without separator bytes
Without-index separator [] h = tt
Without-index separator (b ∷ bytes) h = (h 0 (omega arith), Without-index separator bytes (λ k l. h (suc k) (omega arith)))

pub Without-take : (separator : ℕ) (bytes : List ℕ) (n : ℕ) → ((k : ℕ) → k < n → get_or bytes k 0 ≢ separator) → Without separator (take n bytes)
Without-take separator bytes n h = Without-index separator (take n bytes) (λ k l. let s : k < n = omega (arith, length-take n bytes) in rw (get_or-take n bytes k 0 s) (h k s))

pub not_found : (separator : ℕ) (bytes : List ℕ) → Nowhere (Passes (is_byte separator) bytes) 0 (length bytes) → Without separator bytes
not_found separator bytes none = Without-index separator bytes (λ k l e. none k (omega arith) l (eq-eqb _ _ e))

pub found : (separator : ℕ) (bytes : List ℕ) (place : ℕ) → NoneBefore (Passes (is_byte separator) bytes) 0 (length bytes) place × Passes (is_byte separator) bytes place → StandsFirst separator bytes place
found separator bytes place h = record {
  within = h.0.high;
  before = Without-take separator bytes place (λ k l e. h.0.before k (omega arith) l (eq-eqb _ _ e));
  here = eqb-true _ _ h.1;
}

pub up_to : (separator : ℕ) (bytes : List ℕ) (place : ℕ) → StandsFirst separator bytes place → take (place + 1) bytes ≡ take place bytes ++ separator ∷ []
up_to separator bytes place f = take_more bytes place 0 f.within ∙ ap (λ (b : ℕ). take place bytes ++ b ∷ []) f.here

pub in_two_at : (separator : ℕ) (bytes : List ℕ) (place : ℕ) → StandsFirst separator bytes place → bytes ≡ take place bytes ++ separator ∷ drop (place + 1) bytes
in_two_at separator bytes place f = sym (take-append-drop place bytes) ∙ ap (λ (l : List ℕ). take place bytes ++ l) (drop_more bytes place 0 f.within ∙ ap (λ (b : ℕ). b ∷ drop (place + 1) bytes) f.here)

-- ---- a CR at the end

pub return_at : (bytes : List ℕ) (n : ℕ) → length bytes ≡ suc n → get_or bytes n 0 ≡ 13 → without_return bytes ≡ take n bytes
return_at [] n l e = absurd (omega arith)
return_at (b ∷ []) zero l e = rw (eq-eqb b 13 e) refl
return_at (b ∷ []) (suc n) l e = absurd (omega arith)
return_at (b ∷ c ∷ bytes) zero l e = absurd (omega arith)
return_at (b ∷ c ∷ bytes) (suc n) l e = ap (λ (r : List ℕ). b ∷ r) (return_at (c ∷ bytes) n (omega arith) e)

pub no_return_at : (bytes : List ℕ) (n : ℕ) → length bytes ≡ suc n → get_or bytes n 0 ≢ 13 → without_return bytes ≡ bytes
no_return_at [] n l e = absurd (omega arith)
no_return_at (b ∷ []) zero l e = rw (ne_eqb b 13 e) refl
no_return_at (b ∷ []) (suc n) l e = absurd (omega arith)
no_return_at (b ∷ c ∷ bytes) zero l e = absurd (omega arith)
no_return_at (b ∷ c ∷ bytes) (suc n) l e = ap (λ (r : List ℕ). b ∷ r) (no_return_at (c ∷ bytes) n (omega arith) e)

pub front_without_return : (bytes : List ℕ) → take (length (without_return bytes)) bytes ≡ without_return bytes
front_without_return [] = refl
front_without_return (b ∷ []) = elim (eqb_tells b 13) [ inl y ↦ rw y.0 refl | inr n ↦ rw n.0 refl ]
front_without_return (b ∷ c ∷ bytes) = ap (λ (r : List ℕ). b ∷ r) (front_without_return (c ∷ bytes))

pub Without-return : (separator : ℕ) (bytes : List ℕ) → Without separator bytes → Without separator (without_return bytes)
Without-return separator [] h = tt
Without-return separator (b ∷ []) h = elim (eqb_tells b 13) [ inl y ↦ rw y.0 tt | inr n ↦ rw n.0 h ]
Without-return separator (b ∷ c ∷ bytes) h = (h.0, Without-return separator (c ∷ bytes) h.1)

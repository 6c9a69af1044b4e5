-- The segments of bytes between separators, derived from the last part.
use Rattle.sas_lines.proofs.Imports.{◌≡◌, ℕ, Bool, true, false, cond, eqb, List, [], ◌∷◌, ◌++◌, refl, sym, ap, subst, ◌∙◌, ne_eqb, eq-eqb, eqb-false, Without, onto_first, segments, rest_among}

pub Without-append : (separator : ℕ) (a b : List ℕ) → Without separator a → Without separator b → Without separator (a ++ b)
Without-append separator [] b h g = g
Without-append separator (x ∷ a) b h g = (h.0, Without-append separator a b h.1 g)

-- ---- one part at a time

pub segments-first : (separator : ℕ) (w rest : List ℕ) → Without separator w → segments separator (w ++ separator ∷ rest) ≡ w ∷ segments separator rest
unfolding segments
segments-first separator [] rest h = rw (eq-eqb separator separator refl) refl
segments-first separator (b ∷ w) rest h = rw (ne_eqb b separator h.0, segments-first separator w rest h.1) refl

pub segments-only : (separator : ℕ) (w : List ℕ) → Without separator w → segments separator w ≡ w ∷ []
unfolding segments
segments-only separator [] h = refl
segments-only separator (b ∷ w) h = rw (ne_eqb b separator h.0, segments-only separator w h.1) refl

-- there is a first part
pub record Some_segments (separator : ℕ) (bytes : List ℕ) : Type 0 where
  pub first : List ℕ
  pub others : List (List ℕ)
  pub are : segments separator bytes ≡ first ∷ others

some_by : (t : Bool) (b : ℕ) (ps : List (List ℕ)) → (p : List ℕ) × (qs : List (List ℕ)) × (cond t ([] ∷ ps) (onto_first b ps) ≡ p ∷ qs)
some_by true b ps = ([], ps, refl)
some_by false b [] = (b ∷ [], [], refl)
some_by false b (p ∷ ps) = (b ∷ p, ps, refl)

pub segments-some : (separator : ℕ) (bytes : List ℕ) → Some_segments separator bytes
unfolding segments
segments-some separator [] = record { first = []; others = []; are = refl }
segments-some separator (b ∷ bytes) =
    let s = some_by (eqb b separator) b (segments separator bytes) in
    record { first = s.0; others = s.1; are = s.2 }

-- ---- all segments but the last

abbrev pub front : List (List ℕ) → List (List ℕ)
front [] = []
front (p ∷ []) = []
front (p ∷ q ∷ ps) = p ∷ front (q ∷ ps)

cut_by : (separator : ℕ) (t : Bool) (x : ℕ) (b p : List ℕ) (ps : List (List ℕ)) → eqb x separator ≡ t
    → cond t ([] ∷ (front (p ∷ ps) ++ segments separator (rest_among (p ∷ ps) ++ b))) (onto_first x (front (p ∷ ps) ++ segments separator (rest_among (p ∷ ps) ++ b)))
    ≡ front (cond t ([] ∷ p ∷ ps) (onto_first x (p ∷ ps))) ++ segments separator (rest_among (cond t ([] ∷ p ∷ ps) (onto_first x (p ∷ ps))) ++ b)
unfolding segments
cut_by separator true x b p ps e = refl
cut_by separator false x b p [] e = rw e refl
cut_by separator false x b p (q ∷ ps) e = refl

-- the segments of two byte lists in a row
pub segments-append : (separator : ℕ) (a b : List ℕ) → segments separator (a ++ b) ≡ front (segments separator a) ++ segments separator (rest_among (segments separator a) ++ b)
unfolding segments
segments-append separator [] b = refl
segments-append separator (x ∷ a) b =
    let s = segments-some separator a in
    let P : List (List ℕ) → Type 0 = λ ps. cond (eqb x separator) ([] ∷ segments separator (a ++ b)) (onto_first x (segments separator (a ++ b))) ≡ front (cond (eqb x separator) ([] ∷ ps) (onto_first x ps)) ++ segments separator (rest_among (cond (eqb x separator) ([] ∷ ps) (onto_first x ps)) ++ b) in
    subst P (sym s.are) (ap (λ (l : List (List ℕ)). cond (eqb x separator) ([] ∷ l) (onto_first x l)) (segments-append separator a b ∙ ap (λ (l : List (List ℕ)). front l ++ segments separator (rest_among l ++ b)) s.are) ∙ cut_by separator (eqb x separator) x b s.first s.others refl)

-- the last part holds no separator
last_by : (separator : ℕ) (t : Bool) (x : ℕ) (p : List ℕ) (ps : List (List ℕ)) → eqb x separator ≡ t → Without separator (rest_among (p ∷ ps)) → Without separator (rest_among (cond t ([] ∷ p ∷ ps) (onto_first x (p ∷ ps))))
last_by separator true x p ps e h = h
last_by separator false x p [] e h = (eqb-false x separator e, h)
last_by separator false x p (q ∷ ps) e h = h

pub last-without : (separator : ℕ) (bytes : List ℕ) → Without separator (rest_among (segments separator bytes))
unfolding segments
last-without separator [] = tt
last-without separator (x ∷ bytes) =
    let s = segments-some separator bytes in
    let h = subst (λ (l : List (List ℕ)). Without separator (rest_among l)) s.are (last-without separator bytes) in
    subst (λ (l : List (List ℕ)). Without separator (rest_among (cond (eqb x separator) ([] ∷ l) (onto_first x l)))) (sym s.are) (last_by separator (eqb x separator) x s.first s.others refl h)

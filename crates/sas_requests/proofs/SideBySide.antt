-- Lists side by side: the bytes of plans, their labels, and what is said of them.
use Rattle.sas_requests.proofs.Imports.{◌≡◌, ℕ, zero, suc, ◌<◌, List, [], ◌∷◌, ◌++◌, length, flat_map, get_or, refl, sym, ap, ◌∙◌, arith, append_assoc, append-nil, zip, AllZip, Judged, labelled}

module _ {C : Type 0} (R : List ℕ → C → Type 0) (none : C) where
  -- what relates the items at each place relates the lists
  pub all_zip : (cs : List (List ℕ)) (all : List C) → length cs ≡ length all → ((k : ℕ) → k < length all → R (get_or cs k []) (get_or all k none)) → AllZip R cs all
  all_zip [] [] e h = tt
  all_zip [] (j ∷ all) e h = absurd (omega arith)
  all_zip (c ∷ cs) [] e h = absurd (omega arith)
  all_zip (c ∷ cs) (j ∷ all) e h = (h 0 (omega arith), all_zip cs all (omega arith) (λ k less. h (suc k) (omega arith)))

  -- and back
  pub zip_at : (cs : List (List ℕ)) (all : List C) (k : ℕ) → AllZip R cs all → k < length cs → R (get_or cs k []) (get_or all k none)
  zip_at [] all k h less = absurd (omega arith)
  zip_at (c ∷ cs) [] k h less = absurd h
  zip_at (c ∷ cs) (j ∷ all) zero h less = h.0
  zip_at (c ∷ cs) (j ∷ all) (suc k) h less = zip_at cs all k h.1 (omega arith)

-- a list of what there is for each number below a count
pub record Chosen (Q : ℕ → List ℕ → Type 0) (count : ℕ) : Type 0 where
  pub items : List (List ℕ)
  pub many : length items ≡ count
  pub each : (k : ℕ) → k < count → Q k (get_or items k [])

each_of : (Q : ℕ → List ℕ → Type 0) (n : ℕ) (c : List ℕ) (cs : List (List ℕ)) → Q 0 c → ((k : ℕ) → k < n → Q (suc k) (get_or cs k [])) → (k : ℕ) → k < suc n → Q k (get_or (c ∷ cs) k [])
each_of Q n c cs here later zero less = here
each_of Q n c cs here later (suc k) less = later k (omega arith)

pub choose : (Q : ℕ → List ℕ → Type 0) (count : ℕ) → ((k : ℕ) → k < count → (c : List ℕ) × Q k c) → Chosen Q count
choose Q zero h = record { items = []; many = refl; each = λ k less. absurd (omega arith) }
choose Q (suc n) h =
    let first = h 0 (omega arith) in
    let rest = choose (λ k. Q (suc k)) n (λ k less. h (suc k) (omega arith)) in
    record { items = first.0 ∷ rest.items; many = ap suc rest.many; each = each_of Q n first.0 rest.items first.1 rest.each }

-- no plan, and one plan more with its label
pub none_labelled : (labels : List (List ℕ)) → flat_map labelled (zip labels []) ≡ []
none_labelled [] = refl
none_labelled (l ∷ labels) = refl

pub labelled_next : (labels : List (List ℕ)) (all : List Judged) (j : Judged) → length all < length labels
    → flat_map labelled (zip labels (all ++ j ∷ [])) ≡ flat_map labelled (zip labels all) ++ labelled (get_or labels (length all) [], j)
labelled_next [] all j less = absurd (omega arith)
labelled_next (l ∷ labels) [] j less = ap (λ (x : List ℕ). labelled (l, j) ++ x) (none_labelled labels) ∙ append-nil (labelled (l, j))
labelled_next (l ∷ labels) (i ∷ all) j less =
    ap (λ (x : List ℕ). labelled (l, i) ++ x) (labelled_next labels all j (omega arith))
    ∙ sym (append_assoc (labelled (l, i)) (flat_map labelled (zip labels all)) (labelled (get_or labels (length all) [], j)))

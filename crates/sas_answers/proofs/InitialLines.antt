-- The lines of a state's values, one after another.
use Rattle.sas_answers.proofs.Imports.{◌≡◌, ℕ, ◌+◌, ◌<◌, ◌≤◌, List, [], ◌∷◌, ◌++◌, length, take, get_or, codes, zero-add, arith, sym, ap, subst, ◌∙◌, Option, enumerate_from, flat_map, flat_map-map, take_all, length-enumerate_from, get_or-enumerate_from, Variable, text, Sink, Pushes, fact_line, initial_lines}
use Rattle.sas_answers.proofs.Pushed.{pushes_item}

module _ (variables : List Variable) where
  -- the line of a variable with this value, and its end
  abbrev pub initial_text : ℕ × ℕ → List ℕ
  initial_text (var, value) = fact_line (codes "initial") variables var value ++ 10 ∷ []

  module _ (s : List ℕ) where
    pub initial_is : text (initial_lines variables s) ≡ flat_map initial_text (enumerate_from 0 s)
    initial_is = flat_map-map (λ (line : List ℕ). line ++ 10 ∷ []) (λ (var, value). fact_line (codes "initial") variables var value) (enumerate_from 0 s)

    -- the lines of the first variables
    abbrev pub initial_texts : ℕ → List ℕ
    initial_texts n = flat_map initial_text (take n (enumerate_from 0 s))

    pub initial_all : (n : ℕ) → length s ≤ n → initial_texts n ≡ text (initial_lines variables s)
    initial_all n h = ap (flat_map initial_text) (take_all n (enumerate_from 0 s) (omega (arith, h, length-enumerate_from 0 s))) ∙ sym initial_is

    -- one line more was pushed
    pub initial_next : {W : Type 0} (contents : W → Option (List ℕ)) (i : ℕ) (a b c : Sink W) → i < length s
        → Pushes contents a b (initial_texts i) → Pushes contents b c (initial_text (i, get_or s i 0)) → Pushes contents a c (initial_texts (i + 1))
    initial_next contents i a b c h first second =
        let item = get_or-enumerate_from 0 s i (0, 0) h ∙ ap (λ (k : ℕ). (k, get_or s i 0)) (zero-add i) in
        pushes_item contents initial_text (enumerate_from 0 s) i (0, 0) a b c (omega (arith, h, length-enumerate_from 0 s)) first
        (subst (λ (x : ℕ × ℕ). Pushes contents b c (initial_text x)) (sym item) second)

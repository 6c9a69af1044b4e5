-- Bytes that are put behind others, call after call.
use Rattle.sas_answers.proofs.Imports.{◌≡◌, ℕ, ◌+◌, ◌-◌, ◌^◌, ◌<◌, List, [], ◌∷◌, ◌++◌, length, take, drop, get_or, flat_map, min, append_assoc, append-nil, length-append, arith, refl, sym, ap, ◌∙◌, Bool, true, false, Option, Result, Ok, Err, ⊤, ◌↔◌, IsTrue, Appends, Appends-trans, flat_map-append, take_more, take-append-drop, length-drop, length-take, Short, Piece, CountsOn, Puts, Breaks, MatchResult}

-- after a call that came through the device hasn't failed
pub no_failure : (failed : Bool) → false ≡ true ↔ IsTrue failed → failed ≡ false
no_failure false note = refl
no_failure true note = let e = note.1 refl in absurd cc

-- the count of what went out in two calls
counts_both : (a b c : ℕ) (first second : List ℕ) → CountsOn a first b → CountsOn b second c → CountsOn a (first ++ second) c
counts_both a b c first second to_b to_c fits =
    let all = length-append first second in
    let at_b = to_b (omega (arith, fits, all)) in
    let at_c = to_c (omega (arith, fits, all, at_b)) in
    omega (arith, all, at_b, at_c)

-- what is held before two calls and what they put behind it
row_of_both : (held x y gone between more rest : List ℕ) → held ++ x ≡ gone ++ between → between ++ y ≡ more ++ rest → held ++ (x ++ y) ≡ (gone ++ more) ++ rest
row_of_both held x y gone between more rest e f =
    sym (append_assoc held x y) ∙ ap (λ (l : List ℕ). l ++ y) e ∙ append_assoc gone between y ∙ ap (λ (l : List ℕ). gone ++ l) f ∙ sym (append_assoc gone more rest)

-- what the items up to the next one say
pub next_item : {X : Type 0} (says : X → List ℕ) (items : List X) (i : ℕ) (d : X) → i < length items → flat_map says (take (i + 1) items) ≡ flat_map says (take i items) ++ says (get_or items i d)
next_item says items i d h =
    ap (flat_map says) (take_more items i d h)
    ∙ flat_map-append says (take i items) (get_or items i d ∷ [])
    ∙ ap (λ (l : List ℕ). flat_map says (take i items) ++ l) (append-nil (says (get_or items i d)))

module _ (a b : Option (List ℕ)) (p q : Piece) (x : List ℕ) where
  -- behind bytes that were put, others were put, or broke off
  pub puts_then : (c : Option (List ℕ)) (r : Piece) (y : List ℕ) → Puts a b p q x → Puts b c q r y → Puts a c p r (x ++ y)
  puts_then c r y first second = record {
    gone = first.gone ++ second.gone;
    sent = Appends-trans a b c _ _ first.sent second.sent;
    whole = row_of_both p.held x y first.gone q.held second.gone r.held first.whole second.whole;
    counted = counts_both p.written q.written r.written first.gone second.gone first.counted second.counted;
  }

  pub puts_then_breaks : (c : Option (List ℕ)) (y : List ℕ) (short : Short) → Puts a b p q x → Breaks b c q y short → Breaks a c p (x ++ y) short
  puts_then_breaks c y short first second = record {
    gone = first.gone ++ second.gone;
    rest = second.rest;
    sent = Appends-trans a b c _ _ first.sent second.sent;
    whole = row_of_both p.held x y first.gone q.held second.gone second.rest first.whole second.whole;
    some = second.some;
    counted = counts_both p.written q.written short.written first.gone second.gone first.counted second.counted;
  }

  pub puts_then_either : (c : Option (List ℕ)) (r : Piece) (y : List ℕ) (result : Result ⊤ Short) → Puts a b p q x → MatchResult result (λ _. Puts b c q r y) (λ short. Breaks b c q y short)
      → MatchResult result (λ _. Puts a c p r (x ++ y)) (λ short. Breaks a c p (x ++ y) short)
  puts_then_either c r y (Ok done) first second = puts_then c r y first second
  puts_then_either c r y (Err short) first second = puts_then_breaks c y short first second

  -- what broke off with some bytes broke off with more of them too
  pub breaks_with_more : (y : List ℕ) (short : Short) → Breaks a b p x short → Breaks a b p (x ++ y) short
  breaks_with_more y short broken = record {
    gone = broken.gone;
    rest = broken.rest ++ y;
    sent = broken.sent;
    whole = sym (append_assoc p.held x y) ∙ ap (λ (l : List ℕ). l ++ y) broken.whole ∙ append_assoc broken.gone broken.rest y;
    some = omega (arith, length-append broken.rest y, broken.some);
    counted = broken.counted;
  }

-- the first bytes went out, and not all
pub breaks_at : (a b : Option (List ℕ)) (written count reported : ℕ) (bytes : List ℕ) → (count < length bytes) × Appends a b (take count bytes) → reported ≡ min (written + count) (2 ^ 64 - 1) → Breaks a b (record { held = []; written = written }) bytes (record { written = reported })
breaks_at a b written count reported bytes (within, sent) counted = record {
  gone = take count bytes;
  rest = drop count bytes;
  sent = sent;
  whole = sym (take-append-drop count bytes);
  some = omega (arith, length-drop count bytes, within);
  counted = λ fits. omega (arith, length-take count bytes, within, fits, counted);
}

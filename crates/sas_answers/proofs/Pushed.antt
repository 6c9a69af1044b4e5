-- Bytes that are pushed, call after call.
use Rattle.sas_answers.proofs.Imports.{◌≡◌, ℕ, ◌+◌, ◌<◌, List, [], ◌++◌, append_assoc, append-nil, take, get_or, flat_map, length, refl, sym, ap, subst, ◌∙◌, Option, Bool, true, false, MutBor, Short, Sink, Piece, Puts, Breaks, empty_piece, Pushed, PushedBy, Pushes}
use Rattle.sas_answers.proofs.Putting.{next_item, puts_then, puts_then_breaks, breaks_with_more}

-- the last bytes that are held go out, or break off
pub finish_puts : (a b c : Option (List ℕ)) (p q r : Piece) (text : List ℕ) → Puts a b p q text → Puts b c q r [] → Puts a c p r text
finish_puts a b c p q r text first second = subst (Puts a c p r) (append-nil text) (puts_then a b p q text c r [] first second)

pub finish_breaks : (a b c : Option (List ℕ)) (p q : Piece) (text : List ℕ) (short : Short) → Puts a b p q text → Breaks b c q [] short → Breaks a c p text short
finish_breaks a b c p q text short first second = subst (λ (l : List ℕ). Breaks a c p l short) (append-nil text) (puts_then_breaks a b p q text c [] short first second)

-- bytes are held behind a text, whether a write has failed or not
held_by : (start now : Option (List ℕ)) (p q : Piece) (short : ℕ) (text bytes : List ℕ) (failed : Bool) → q.held ≡ p.held ++ bytes → q.written ≡ p.written
    → PushedBy start now p short text failed → PushedBy start now q short (text ++ bytes) failed
held_by start now p q short text bytes true held written broken = breaks_with_more start now empty_piece empty_piece text bytes (record { written = short }) broken
held_by start now p q short text bytes false held written puts = record {
  gone = puts.gone;
  sent = puts.sent;
  whole = ap (λ (l : List ℕ). l ++ bytes) puts.whole ∙ append_assoc puts.gone p.held bytes ∙ ap (λ (l : List ℕ). puts.gone ++ l) (sym held);
  counted = λ fits. written ∙ puts.counted fits;
}

module _ {W : Type 0} (contents : W → Option (List ℕ)) where
  pub pushes_held : (s : Sink W) (pieces : MutBor Piece) (bytes : List ℕ) → pieces.ghost_name ≡ s.pieces.ghost_name → pieces.now.held ≡ s.pieces.now.held ++ bytes → pieces.now.written ≡ s.pieces.now.written
      → Pushes contents s (record s { pieces = pieces }) bytes
  pushes_held s pieces bytes name held written = record {
    same = refl;
    pieces = name;
    status = refl;
    text = λ start text. held_by start (contents s.out.now.device) s.pieces.now pieces.now s.short text bytes s.out.now.failed held written;
  }

  -- bytes were pushed, and others behind them
  pub pushes_then : (s t u : Sink W) (x y : List ℕ) → Pushes contents s t x → Pushes contents t u y → Pushes contents s u (x ++ y)
  pushes_then s t u x y first second = record {
    same = second.same ∙ first.same;
    pieces = second.pieces ∙ first.pieces;
    status = second.status ∙ first.status;
    text = λ start text pushed. subst (Pushed contents start u) (append_assoc text x y) (second.text start (text ++ x) (first.text start text pushed));
  }

  -- after a failed write nothing more is written
  pub pushes_lost : (s : Sink W) (bytes : List ℕ) → s.out.now.failed ≡ true → Pushes contents s s bytes
  pushes_lost s bytes failed = record {
    same = refl;
    pieces = refl;
    status = refl;
    text = λ start text pushed.
        let by = subst (PushedBy start (contents s.out.now.device) s.pieces.now s.short text) failed pushed in
        subst (PushedBy start (contents s.out.now.device) s.pieces.now s.short (text ++ bytes)) (sym failed)
        (breaks_with_more start (contents s.out.now.device) empty_piece empty_piece text bytes (record { written = s.short }) by);
  }

  -- what was pushed as long as no write failed
  pub puts_so_far : (s : Sink W) → s.out.now.failed ≡ false → (start : Option (List ℕ)) (text : List ℕ) → Pushed contents start s text → Puts start (contents s.out.now.device) empty_piece s.pieces.now text
  puts_so_far s well start text pushed = subst (PushedBy start (contents s.out.now.device) s.pieces.now s.short text) well pushed

  module _ (s t : Sink W) (bytes : List ℕ) (same : t.out.ghost_name ≡ s.out.ghost_name) (pieces : t.pieces.ghost_name ≡ s.pieces.ghost_name) (status : t.status ≡ s.status) (well : s.out.now.failed ≡ false) where
    pub pushes_put : t.out.now.failed ≡ false → Puts (contents s.out.now.device) (contents t.out.now.device) s.pieces.now t.pieces.now bytes → Pushes contents s t bytes
    pushes_put is puts = record {
      same = same;
      pieces = pieces;
      status = status;
      text = λ start text pushed. subst (PushedBy start (contents t.out.now.device) t.pieces.now t.short (text ++ bytes)) (sym is)
          (puts_then start (contents s.out.now.device) empty_piece s.pieces.now text (contents t.out.now.device) t.pieces.now bytes (puts_so_far s well start text pushed) puts);
    }

    pub pushes_broken : t.out.now.failed ≡ true → Breaks (contents s.out.now.device) (contents t.out.now.device) s.pieces.now bytes (record { written = t.short }) → Pushes contents s t bytes
    pushes_broken is broken = record {
      same = same;
      pieces = pieces;
      status = status;
      text = λ start text pushed. subst (PushedBy start (contents t.out.now.device) t.pieces.now t.short (text ++ bytes)) (sym is)
          (puts_then_breaks start (contents s.out.now.device) empty_piece s.pieces.now text (contents t.out.now.device) bytes (record { written = t.short }) (puts_so_far s well start text pushed) broken);
    }

  -- the bytes of the next item, behind those of the items before it
  pub pushes_item : {X : Type 0} (says : X → List ℕ) (items : List X) (i : ℕ) (d : X) (s t u : Sink W) → i < length items
      → Pushes contents s t (flat_map says (take i items)) → Pushes contents t u (says (get_or items i d)) → Pushes contents s u (flat_map says (take (i + 1) items))
  pushes_item says items i d s t u h first second =
      subst (Pushes contents s u) (sym (next_item says items i d h)) (pushes_then s t u _ _ first second)

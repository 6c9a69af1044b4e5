-- One line of a piece, or a part of one.
use Rattle.std.proofs.lemmas.Grind.{common_steps}
use Rattle.sas_reader.proofs.Imports.{Behavior, ◌≡◌, ℕ, ◌+◌, ◌<◌, ◌≤◌, Bool, true, false, List, [], ◌∷◌, ◌++◌, length, take, drop, refl, sym, ap, subst, ◌∙◌, append_assoc, arith, length-append, length-drop, append-nil, length-take, take-append-drop, take-append-le, take-add, take-append-add, without_return, lines, unfinished, NoEnd, TakesLine, completed, lines-none, unfinished-none, lines-append, Fault, Excerpt, IsFoundOf, Reached, LineIsDue, Stops, full, over, rejected, FaultBehind, unfinished-append, lines-part, lines-end, unfinished-plain_all, lines-without}
use Rattle.sas_reader.specs.declared.fault.Kind.TheVariants as kinds

-- ---- a prefix of a piece

pub takes_bound : (piece : List ℕ) (n : ℕ) (complete : Bool) → TakesLine piece n complete → n ≤ length piece
takes_bound piece n true h = let e : length piece ≡ length h.0 + length (10 ∷ h.1) = ap length h.3 ∙ length-append h.0 (10 ∷ h.1) in omega (arith, e, h.4)
takes_bound piece n false h = omega (arith, h.1)

pub front_of : (m n : ℕ) (piece : List ℕ) → n ≤ length (take m piece) → take n (take m piece) ≡ take n piece
front_of m n piece h = sym (take-append-le n (take m piece) (drop m piece) h) ∙ ap (take n) (take-append-drop m piece)

-- ---- the lines and the pending bytes, after more bytes

pub lines_fed : (bytes t pending line : List ℕ) (complete : Bool) → pending ≡ unfinished bytes → lines (pending ++ t) ≡ completed complete line → lines (bytes ++ t) ≡ lines bytes ++ completed complete line
lines_fed bytes t pending line complete p e = lines-append bytes t ∙ ap (λ (l : List (List ℕ)). lines bytes ++ l) (ap (λ (x : List ℕ). lines (x ++ t)) (sym p) ∙ e)

pub unfinished_fed : (bytes t pending rest : List ℕ) → pending ≡ unfinished bytes → unfinished (pending ++ t) ≡ rest → unfinished (bytes ++ t) ≡ rest
unfinished_fed bytes t pending rest p e = unfinished-append bytes t ∙ ap (λ (x : List ℕ). unfinished (x ++ t)) (sym p) ∙ e

-- the line that a feed completed is what was unfinished before its LF
line_is : (bytes front line : List ℕ) → NoEnd front → lines (unfinished bytes ++ (front ++ 10 ∷ [])) ≡ line ∷ [] → line ≡ without_return (unfinished (bytes ++ front))
line_is bytes front line h e = grind (arith, common_steps, lines-part, lines-without, unfinished-plain_all, lines-end, append_assoc, unfinished-append)

module _ {M : Type 0} (B : Behavior M) where
  pub reached_start : (m : M) → B.led_by [] m → Reached B m []
  reached_start m h = record { led = subst (λ (l : List (List ℕ)). B.led_by l m) (sym lines-none) h; rest = λ e. unfinished-none }

  -- a part of a line
  pub reached_part : (m : M) (bytes t pending : List ℕ) → Reached B m bytes → (B.ended m → ⊥) → pending ≡ unfinished bytes → lines (pending ++ t) ≡ [] → Reached B m (bytes ++ t)
  reached_part m bytes t pending h going p e = record {
    led = subst (λ (l : List (List ℕ)). B.led_by l m) (sym (lines_fed bytes t pending [] false p e ∙ append-nil (lines bytes))) h.led;
    rest = λ d. absurd (going d);
  }

  -- a whole line
  pub reached_line : (m : M) (bytes t pending line : List ℕ) → B.led_by (lines bytes ++ line ∷ []) m → pending ≡ unfinished bytes → lines (pending ++ t) ≡ line ∷ [] → unfinished (pending ++ t) ≡ [] → Reached B m (bytes ++ t)
  reached_line m bytes t pending line h p e u = record {
    led = subst (λ (l : List (List ℕ)). B.led_by l m) (sym (lines_fed bytes t pending line true p e)) h;
    rest = λ d. unfinished_fed bytes t pending [] p u;
  }

  -- ---- a line is expected

  pub due_first : (limit : ℕ) (m : M) (bytes piece : List ℕ) → 0 < length piece → Reached B m bytes → (B.ended m → ⊥) → length bytes < limit → LineIsDue B limit bytes piece
  due_first limit m bytes piece some h going room =
      let same : bytes ≡ bytes ++ [] = sym (append-nil bytes) in
      record { machine = m; at = 0; within = some; reached = subst (Reached B m) same h; open_still = going; room = subst (λ (x : List ℕ). length x < limit) same room }

  -- in a prefix of a piece
  pub due_wider : (limit : ℕ) (bytes piece : List ℕ) (m : ℕ) → LineIsDue B limit bytes (take m piece) → LineIsDue B limit bytes piece
  due_wider limit bytes piece m d =
      let same : take d.at (take m piece) ≡ take d.at piece = front_of m d.at piece (omega (arith, d.within)) in
      record {
        machine = d.machine;
        at = d.at;
        within = omega (arith, d.within, length-take m piece);
        reached = subst (λ (x : List ℕ). Reached B d.machine (bytes ++ x)) same d.reached;
        open_still = d.open_still;
        room = subst (λ (x : List ℕ). length (bytes ++ x) < limit) same d.room;
      }

  -- after a prefix of a piece
  pub due_behind : (limit : ℕ) (bytes piece : List ℕ) (i : ℕ) → LineIsDue B limit (bytes ++ take i piece) (drop i piece) → LineIsDue B limit bytes piece
  due_behind limit bytes piece i d =
      let same : (bytes ++ take i piece) ++ take d.at (drop i piece) ≡ bytes ++ take (i + d.at) piece = append_assoc bytes (take i piece) (take d.at (drop i piece)) ∙ ap (λ (x : List ℕ). bytes ++ x) (sym (take-add i d.at piece)) in
      record {
        machine = d.machine;
        at = i + d.at;
        within = omega (arith, d.within, length-drop i piece);
        reached = subst (Reached B d.machine) same d.reached;
        open_still = d.open_still;
        room = subst (λ (x : List ℕ). length x < limit) same d.room;
      }

  -- the first byte of a piece exceeds the limit
  fault_first : (limit : ℕ) (m : M) (bytes piece : List ℕ) (f : Fault) (now : M) (found : Excerpt) → 0 < length piece → Reached B m bytes → f.line ≡ length (lines bytes) + 1 → ((byte : ℕ) → take 1 piece ≡ byte ∷ [] → Stops B limit m bytes byte f.kind now found) → FaultBehind B limit bytes piece f now found
  fault_first limit m bytes [] f now found some h line stops = absurd (omega arith)
  fault_first limit m bytes (byte ∷ after) f now found some h line stops =
      let same : bytes ≡ bytes ++ [] = sym (append-nil bytes) in
      record {
        machine = m;
        front = [];
        byte = byte;
        after = after;
        whole = refl;
        reached = subst (Reached B m) same h;
        line = subst (λ (x : List ℕ). f.line ≡ length (lines x) + 1) same line;
        stops = subst (λ (x : List ℕ). Stops B limit m x byte f.kind now found) same (stops byte refl);
      }

  pub fault_full : (limit : ℕ) (m : M) (bytes piece : List ℕ) (f : Fault) (now : M) (found : Excerpt) → 0 < length piece → Reached B m bytes → f.line ≡ length (lines bytes) + 1 → length bytes ≡ limit → f.kind ≡ kinds.TooLong → FaultBehind B limit bytes piece f now found
  fault_full limit m bytes piece f now found some h line l k = fault_first limit m bytes piece f now found some h line (λ byte e. full l k)

  pub fault_over : (limit : ℕ) (m : M) (bytes piece : List ℕ) (f : Fault) (now : M) (found : Excerpt) → 0 < length piece → Reached B m bytes → f.line ≡ length (lines bytes) + 1 → length bytes + 1 ≤ limit → B.ended m → f.kind ≡ kinds.Trailing → now ≡ m → IsFoundOf f.kind (take 1 piece) found → FaultBehind B limit bytes piece f now found
  fault_over limit m bytes piece f now found some h line l d k stays is = fault_first limit m bytes piece f now found some h line (λ byte e. over l d k stays (subst (λ (x : List ℕ). IsFoundOf f.kind x found) e is))

  -- its first line is rejected
  pub fault_line : (limit : ℕ) (m : M) (bytes piece pending line : List ℕ) (n : ℕ) (f : Fault) (now : M) (found : Excerpt) → Reached B m bytes → (B.ended m → ⊥) → TakesLine piece n true → pending ≡ unfinished bytes → lines (pending ++ take n piece) ≡ line ∷ [] → length bytes + n ≤ limit → f.line ≡ length (lines bytes) + 1
      → B.rejects m line f.kind → B.stopped m line f.kind now → IsFoundOf f.kind line found → FaultBehind B limit bytes piece f now found
  fault_line limit m bytes piece pending line n f now found h going t p e room at_line r behind known =
      let front = t.0 in
      let taken : take n piece ≡ front ++ 10 ∷ [] = ap (λ (x : ℕ). take x piece) t.4 ∙ ap (take (length front + 1)) t.3 ∙ take-append-add front (10 ∷ t.1) 1 in
      let same : lines (bytes ++ front) ≡ lines bytes = lines-part bytes front t.2 in
      let is : line ≡ without_return (unfinished (bytes ++ front)) = line_is bytes front line t.2 (ap (λ (x : List ℕ). lines (unfinished bytes ++ x)) (sym taken) ∙ ap (λ (x : List ℕ). lines (x ++ take n piece)) (sym p) ∙ e) in
      record {
        machine = m;
        front = front;
        byte = 10;
        after = t.1;
        whole = t.3;
        reached = record { led = subst (λ (l : List (List ℕ)). B.led_by l m) (sym same) h.led; rest = λ d. absurd (going d) };
        line = at_line ∙ ap (λ (l : List (List ℕ)). length l + 1) (sym same);
        stops = rejected (omega (arith, length-append bytes front, room, t.4)) going refl (subst (λ (x : List ℕ). B.rejects m x f.kind) is r) (subst (λ (x : List ℕ). B.stopped m x f.kind now) is behind) (subst (λ (x : List ℕ). IsFoundOf f.kind x found) is known);
      }

  -- a fault in a prefix of a piece
  pub fault_wider : (limit : ℕ) (bytes front rest : List ℕ) (f : Fault) (now : M) (found : Excerpt) → FaultBehind B limit bytes front f now found → FaultBehind B limit bytes (front ++ rest) f now found
  fault_wider limit bytes front rest f now found h = record {
    machine = h.machine;
    front = h.front;
    byte = h.byte;
    after = h.after ++ rest;
    whole = ap (λ (x : List ℕ). x ++ rest) h.whole ∙ append_assoc h.front (h.byte ∷ h.after) rest;
    reached = h.reached;
    line = h.line;
    stops = h.stops;
  }

  -- a fault after a prefix of a piece
  pub fault_behind : (limit : ℕ) (bytes piece front rest : List ℕ) (f : Fault) (now : M) (found : Excerpt) → front ++ rest ≡ piece → FaultBehind B limit (bytes ++ front) rest f now found → FaultBehind B limit bytes piece f now found
  fault_behind limit bytes piece front rest f now found is h =
      let same : (bytes ++ front) ++ h.front ≡ bytes ++ (front ++ h.front) = append_assoc bytes front h.front in
      record {
        machine = h.machine;
        front = front ++ h.front;
        byte = h.byte;
        after = h.after;
        whole = sym is ∙ ap (λ (x : List ℕ). front ++ x) h.whole ∙ sym (append_assoc front h.front (h.byte ∷ h.after));
        reached = subst (Reached B h.machine) same h.reached;
        line = subst (λ (x : List ℕ). f.line ≡ length (lines x) + 1) same h.line;
        stops = subst (λ (x : List ℕ). Stops B limit h.machine x h.byte f.kind now found) same h.stops;
      }

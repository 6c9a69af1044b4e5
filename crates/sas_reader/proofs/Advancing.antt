-- One step of a reader: it takes a piece up to and including the first line end, or all of it.
use Rattle.std.proofs.lemmas.Grind.{common_steps}
use Rattle.sas_reader.proofs.Imports.{Behavior, ◌≡◌, ◌≢◌, ℕ, ◌+◌, ◌-◌, ◌≤◌, ◌<◌, Bool, true, false, not, List, [], ◌∷◌, ◌++◌, length, take, drop, refl, sym, ap, subst, ◌∙◌, append_assoc, arith, length-append, length-drop, Result, Ok, Err, append-nil, length-take, take_all, take-append-drop, take-add, lines, unfinished, TakesLine, LineStandsFirst, LinesStandFirst, lines-append, unfinished-append, lines-few, Fault, Kind, Reader, Front, IsOfBytes, IsFront, IsFoundOf, Reached, Accepted, LineIsDue, FaultBehind, TookFront, Stopped, TakesFrontOrStops, Progress, completed}
use Rattle.sas_reader.specs.declared.fault.Kind.TheVariants as kinds
use Rattle.sas_reader.proofs.Pieces.{takes_bound, front_of, lines_fed, unfinished_fed, reached_part, reached_line, due_first, due_wider, due_behind, fault_full, fault_over, fault_line, fault_wider, fault_behind}

is_false : (b : Bool) → not b ≡ true → b ≡ false
is_false true h = absurd cc
is_false false h = refl

is_true : (b : Bool) → not b ≡ false → b ≡ true
is_true true h = refl
is_true false h = absurd cc

-- Properties of the bytes that are taken from a piece, after pending bytes.
pub record Fed (pending : List ℕ) (next : Progress) (piece : List ℕ) (n : ℕ) (complete : Bool) : Type 0 where
  pub taken : TakesLine piece n complete
  pub lines : lines (pending ++ take n piece) ≡ completed complete next.line
  pub rest : unfinished (pending ++ take n piece) ≡ next.pending

-- if nothing was pending, it is the next line
fed_whole : (pending piece line : List ℕ) (n : ℕ) → pending ≡ [] → LineStandsFirst piece line n → Fed pending (record { line = line; pending = [] }) piece n true
fed_whole pending piece line n p w = record { taken = w.taken; lines = rw p w.line; rest = rw p w.rest }

-- a prefix has at most as many lines as bytes, and at most all bytes
pub front_few : (first : List (List ℕ)) (bytes : List ℕ) (front : Front) → IsFront first bytes front → front.lines ≤ front.bytes
front_few first bytes front h = grind (arith, common_steps, lines-few, length-take)

-- the bytes taken from a piece are part of it
pub takes_some : (piece : List ℕ) (n : ℕ) (complete : Bool) → TakesLine piece n complete → 0 < length piece → 0 < n
takes_some piece n true t l = omega (arith, t.4)
takes_some piece n false t l = omega (arith, t.1, l)

length_taken : (piece : List ℕ) (n : ℕ) (complete : Bool) → TakesLine piece n complete → length (take n piece) ≡ n
length_taken piece n complete t = let b = takes_bound piece n complete t in omega (arith, b, length-take n piece)

-- the rest of a piece, as the code slices it
abbrev pub rest : ℕ → List ℕ → List ℕ
rest i piece = take (length piece - i) (drop i piece)

pub rest_is : (i : ℕ) (piece : List ℕ) → rest i piece ≡ drop i piece
rest_is i piece = take_all (length piece - i) (drop i piece) (omega (arith, length-drop i piece))

whole_is : (i : ℕ) (piece : List ℕ) → take i piece ++ rest i piece ≡ piece
whole_is i piece = ap (λ (x : List ℕ). take i piece ++ x) (rest_is i piece) ∙ take-append-drop i piece

-- bytes, a prefix of the piece, and a prefix of its rest
joined : (bytes piece : List ℕ) (i n : ℕ) → (bytes ++ take i piece) ++ take n (rest i piece) ≡ bytes ++ take (i + n) piece
joined bytes piece i n = grind (arith, common_steps, rest_is, append_assoc, take-add)

-- the prefix of a piece that the limit leaves room for
pub within_fits : (limit taken : ℕ) (piece front : List ℕ) → front ≡ take (limit - taken) piece → taken ≤ limit → taken + length front ≤ limit
within_fits limit taken piece front e l = let n = ap length e ∙ length-take (limit - taken) piece in omega (arith, n, l)

-- this prefix is empty only at the limit
pub within_none : (limit taken : ℕ) (piece front : List ℕ) → front ≡ take (limit - taken) piece → taken ≤ limit → 0 < length piece → length front ≡ 0 → taken ≡ limit
within_none limit taken piece front e l some none = let n = ap length e ∙ length-take (limit - taken) piece in omega (arith, n, l, some, none)

module _ {M : Type 0} (B : Behavior M) where
  pub accepted_part : (r s : Reader M) (bytes piece : List ℕ) (n : ℕ) (complete : Bool) → Accepted B r bytes → (B.ended r.machine → ⊥) → not complete ≡ true → Fed r.pending.pending s.pending piece n complete
      → s.machine ≡ r.machine → s.lines ≡ r.lines → s.taken ≡ r.taken + n → Accepted B s (bytes ++ take n piece)
  accepted_part r s bytes piece n complete h going part fed same_machine same_lines same_taken =
      let none : lines (r.pending.pending ++ take n piece) ≡ [] = fed.lines ∙ ap (λ b. completed b s.pending.line) (is_false complete part) in
      record {
        reached = subst (λ m. Reached B m (bytes ++ take n piece)) (sym same_machine) (reached_part B r.machine bytes (take n piece) r.pending.pending h.reached going h.pending none);
        pending = sym (unfinished_fed bytes (take n piece) r.pending.pending s.pending.pending h.pending fed.rest);
        lines = same_lines ∙ h.lines ∙ ap length (sym (lines_fed bytes (take n piece) r.pending.pending [] false h.pending none ∙ append-nil (lines bytes)));
        taken = same_taken ∙ (let l = length_taken piece n complete fed.taken in omega (arith, h.taken, l, length-append bytes (take n piece)));
      }

  pub accepted_line : (r s : Reader M) (bytes piece line : List ℕ) (n : ℕ) (complete : Bool) (m : M) (next : Progress) → Accepted B r bytes → not complete ≡ false → Fed r.pending.pending next piece n complete
      → (complete ≡ true → next.pending ≡ []) → line ≡ next.line → ((before : List (List ℕ)) → length before + 1 ≡ r.lines + 1 → B.led_by before r.machine → B.led_by (before ++ line ∷ []) m)
      → s.machine ≡ m → s.pending.pending ≡ next.pending → s.lines ≡ r.lines + 1 → s.taken ≡ r.taken + n → Accepted B s (bytes ++ take n piece)
  accepted_line r s bytes piece line n complete m next h whole fed nothing line_is leads same_machine same_pending same_lines same_taken =
      let yes = is_true complete whole in
      let one : lines (r.pending.pending ++ take n piece) ≡ line ∷ [] = fed.lines ∙ ap (λ b. completed b next.line) yes ∙ ap (λ (x : List ℕ). x ∷ []) (sym line_is) in
      let rest : unfinished (r.pending.pending ++ take n piece) ≡ next.pending = fed.rest in
      let more : lines (bytes ++ take n piece) ≡ lines bytes ++ line ∷ [] = lines_fed bytes (take n piece) r.pending.pending line true h.pending one in
      record {
        reached = subst (λ x. Reached B x (bytes ++ take n piece)) (sym same_machine) (reached_line B m bytes (take n piece) r.pending.pending line (leads (lines bytes) (ap (λ n. n + 1) (sym h.lines)) h.reached.led) h.pending one (rest ∙ nothing yes));
        pending = same_pending ∙ sym (unfinished_fed bytes (take n piece) r.pending.pending next.pending h.pending rest);
        lines = same_lines ∙ (let e : length (lines (bytes ++ take n piece)) ≡ length (lines bytes) + 1 = ap length more ∙ length-append (lines bytes) (line ∷ []) in omega (arith, h.lines, e));
        taken = same_taken ∙ (let l = length_taken piece n complete fed.taken in omega (arith, h.taken, l, length-append bytes (take n piece)));
      }

  -- ---- the promises of a step

  pub takes : (old new : Reader M) (piece : List ℕ) (n : ℕ) → new.fault ≡ old.fault → new.limit ≡ old.limit → TookFront B old new piece n → TakesFrontOrStops B old piece new (Ok n)
  takes old new piece n fault limit h = record { took = h; stopped = tt; fault = fault; limit = limit }

  pub stops : (old new : Reader M) (piece : List ℕ) (k : Kind) → new.fault ≡ old.fault → new.limit ≡ old.limit → Stopped B old new piece k → TakesFrontOrStops B old piece new (Err k)
  stops old new piece k fault limit h = record { took = tt; stopped = h; fault = fault; limit = limit }

  -- nothing was taken
  pub took_none : (r : Reader M) (piece : List ℕ) → TakesFrontOrStops B r piece r (Ok 0)
  took_none r piece = takes r r piece 0 refl refl (record { within = omega arith; count = omega arith; accepted = λ bytes h. subst (Accepted B r) (sym (append-nil bytes)) h })

  -- the first lines of the piece were taken, and nothing was pending
  pub took_lines : (r s : Reader M) (piece : List ℕ) (first : List (List ℕ)) (n : ℕ) → r.pending.pending ≡ [] → LinesStandFirst piece first n → ((before : List (List ℕ)) → B.led_by before r.machine → B.led_by (before ++ first) s.machine)
      → s.pending ≡ r.pending → s.lines ≡ r.lines + length first → s.taken ≡ r.taken + n → TookFront B r s piece n
  took_lines r s piece first n nothing stand leads same_pending same_lines same_taken = record {
    within = stand.within;
    count = same_taken;
    accepted = λ bytes h.
        let whole : unfinished bytes ≡ [] = sym h.pending ∙ nothing in
        let more : lines (bytes ++ take n piece) ≡ lines bytes ++ first = lines-append bytes (take n piece) ∙ ap (λ (x : List ℕ). lines bytes ++ lines (x ++ take n piece)) whole ∙ ap (λ (x : List (List ℕ)). lines bytes ++ x) stand.lines in
        let none : unfinished (bytes ++ take n piece) ≡ [] = unfinished-append bytes (take n piece) ∙ ap (λ (x : List ℕ). unfinished (x ++ take n piece)) whole ∙ stand.rest in
        record {
          reached = record { led = subst (λ (l : List (List ℕ)). B.led_by l s.machine) (sym more) (leads (lines bytes) h.reached.led); rest = λ e. none };
          pending = ap (λ (p : Progress). p.pending) same_pending ∙ nothing ∙ sym none;
          lines = same_lines ∙ (let e : length (lines (bytes ++ take n piece)) ≡ length (lines bytes) + length first = ap length more ∙ length-append (lines bytes) first in omega (arith, h.lines, e));
          taken = same_taken ∙ (let l = length-take n piece in omega (arith, h.taken, l, stand.within, length-append bytes (take n piece)));
        };
  }

  -- the first line of the piece was taken, and nothing was pending
  pub took_whole : (r s : Reader M) (piece line : List ℕ) (n : ℕ) → r.pending.pending ≡ [] → LineStandsFirst piece line n → ((before : List (List ℕ)) → length before + 1 ≡ r.lines + 1 → B.led_by before r.machine → B.led_by (before ++ line ∷ []) s.machine)
      → s.pending ≡ r.pending → s.lines ≡ r.lines + 1 → s.taken ≡ r.taken + n → TookFront B r s piece n
  took_whole r s piece line n nothing whole leads same_pending same_lines same_taken = record {
    within = takes_bound piece n true whole.taken;
    count = same_taken;
    accepted = λ bytes h. accepted_line r s bytes piece line n true s.machine (record { line = line; pending = [] }) h refl (fed_whole r.pending.pending piece line n nothing whole) (λ e. refl) refl leads refl (ap (λ (p : Progress). p.pending) same_pending ∙ nothing) same_lines same_taken;
  }

  -- the reader refuses the first line of the piece, or is out of memory
  pub stopped_at : (r s : Reader M) (piece line : List ℕ) (n : ℕ) (complete : Bool) (next : Progress) (k : Kind) → 0 < length piece → (B.ended r.machine → ⊥) → not complete ≡ false → Fed r.pending.pending next piece n complete
      → line ≡ next.line → r.taken + length piece ≤ r.limit → IsOfBytes k → (k ≢ kinds.Memory → B.rejects r.machine line k) → (k ≢ kinds.Memory → B.stopped r.machine line k s.machine) → IsFoundOf k line s.found → s.lines ≡ r.lines → Stopped B r s piece k
  stopped_at r s piece line n complete next k some going whole fed line_is fits of_bytes refused behind known same =
      let yes = is_true complete whole in
      let takes : TakesLine piece n true = subst (λ b. TakesLine piece n b) yes fed.taken in
      let one : lines (r.pending.pending ++ take n piece) ≡ line ∷ [] = fed.lines ∙ ap (λ b. completed b next.line) yes ∙ ap (λ (x : List ℕ). x ∷ []) (sym line_is) in
      let bound = takes_bound piece n complete fed.taken in
      record {
        kind = of_bytes;
        fault = λ ne bytes h. fault_line B r.limit r.machine bytes piece r.pending.pending line n (record { line = s.lines + 1; kind = k }) s.machine s.found h.reached going takes h.pending one (omega (arith, h.taken, bound, fits)) (ap (λ (x : ℕ). x + 1) (same ∙ h.lines)) (refused ne) (behind ne) known;
        memory = λ e bytes h. due_first B r.limit r.machine bytes piece some h.reached going (omega (arith, h.taken, some, fits));
      }

  -- the same if nothing is pending
  pub stopped_whole : (r s : Reader M) (piece line : List ℕ) (n : ℕ) (k : Kind) → 0 < length piece → (B.ended r.machine → ⊥) → r.pending.pending ≡ [] → LineStandsFirst piece line n
      → r.taken + length piece ≤ r.limit → IsOfBytes k → (k ≢ kinds.Memory → B.rejects r.machine line k) → (k ≢ kinds.Memory → B.stopped r.machine line k s.machine) → IsFoundOf k line s.found → s.lines ≡ r.lines → Stopped B r s piece k
  stopped_whole r s piece line n k some going nothing whole fits of_bytes refused behind known same =
      stopped_at r s piece line n true (record { line = line; pending = [] }) k some going refl (fed_whole r.pending.pending piece line n nothing whole) refl fits of_bytes refused behind known same

  -- the reader is out of memory while a line is expected
  pub stopped_memory : (r s : Reader M) (piece : List ℕ) (k : Kind) → 0 < length piece → (B.ended r.machine → ⊥) → r.taken < r.limit → k ≡ kinds.Memory → Stopped B r s piece k
  stopped_memory r s piece k some going room is = record {
    kind = subst IsOfBytes (sym is) ((λ e. absurd cc), (λ e. absurd cc));
    fault = λ ne. absurd (ne is);
    memory = λ e bytes h. due_first B r.limit r.machine bytes piece some h.reached going (omega (arith, h.taken, room));
  }

  -- no byte may follow at the limit
  pub stopped_full : (r : Reader M) (piece : List ℕ) → 0 < length piece → r.taken ≡ r.limit → Stopped B r r piece kinds.TooLong
  stopped_full r piece some l = record {
    kind = ((λ e. absurd cc), (λ e. absurd cc));
    fault = λ ne bytes h. fault_full B r.limit r.machine bytes piece (record { line = r.lines + 1; kind = kinds.TooLong }) r.machine r.found some h.reached (ap (λ (x : ℕ). x + 1) h.lines) (sym h.taken ∙ l) refl;
    memory = λ e. absurd cc;
  }

  -- and no byte after the end of the machine
  pub stopped_over : (r s : Reader M) (piece : List ℕ) → 0 < length piece → r.taken < r.limit → B.ended r.machine → s.machine ≡ r.machine → s.lines ≡ r.lines → IsFoundOf kinds.Trailing (take 1 piece) s.found → Stopped B r s piece kinds.Trailing
  stopped_over r s piece some room d stays same known = record {
    kind = ((λ e. absurd cc), (λ e. absurd cc));
    fault = λ ne bytes h. fault_over B r.limit r.machine bytes piece (record { line = s.lines + 1; kind = kinds.Trailing }) s.machine s.found some h.reached (ap (λ (x : ℕ). x + 1) (same ∙ h.lines)) (omega (arith, h.taken, room)) d refl stays known;
    memory = λ e. absurd cc;
  }

  -- ---- a prefix of a piece

  -- what holds for a prefix of a piece holds for the piece
  took_wider : (old new : Reader M) (piece : List ℕ) (room n : ℕ) → TookFront B old new (take room piece) n → TookFront B old new piece n
  took_wider old new piece room n h = record {
    within = omega (arith, h.within, length-take room piece);
    count = h.count;
    accepted = λ bytes a. subst (λ (x : List ℕ). Accepted B new (bytes ++ x)) (front_of room n piece h.within) (h.accepted bytes a);
  }

  stopped_wider : (old new : Reader M) (piece : List ℕ) (room : ℕ) (k : Kind) → Stopped B old new (take room piece) k → Stopped B old new piece k
  stopped_wider old new piece room k h = record {
    kind = h.kind;
    fault = λ ne bytes a.
        let f : Fault = record { line = new.lines + 1; kind = k } in
        subst (λ (x : List ℕ). FaultBehind B old.limit bytes x f new.machine new.found) (take-append-drop room piece) (fault_wider B old.limit bytes (take room piece) (drop room piece) f new.machine new.found (h.fault ne bytes a));
    memory = λ e bytes a. due_wider B old.limit bytes piece room (h.memory e bytes a);
  }

  pub advances_wider : (old new : Reader M) (piece front : List ℕ) (room : ℕ) (r : Result ℕ Kind) → front ≡ take room piece → TakesFrontOrStops B old front new r → TakesFrontOrStops B old piece new r
  advances_wider old new piece front room (Ok n) e h = takes old new piece n h.fault h.limit (took_wider old new piece room n (subst (λ (x : List ℕ). TookFront B old new x n) e h.took))
  advances_wider old new piece front room (Err k) e h = stops old new piece k h.fault h.limit (stopped_wider old new piece room k (subst (λ (x : List ℕ). Stopped B old new x k) e h.stopped))

  -- ---- after a prefix of the piece that was taken

  took_behind : (old mid new : Reader M) (piece : List ℕ) (i n : ℕ) → TookFront B old mid piece i → TookFront B mid new (rest i piece) n → TookFront B old new piece (i + n)
  took_behind old mid new piece i n a b =
      let w : n ≤ length (drop i piece) = subst (λ (x : List ℕ). n ≤ length x) (rest_is i piece) b.within in
      record {
        within = omega (arith, w, length-drop i piece, a.within);
        count = omega (arith, a.count, b.count);
        accepted = λ bytes h. subst (Accepted B new) (joined bytes piece i n) (b.accepted (bytes ++ take i piece) (a.accepted bytes h));
      }

  stopped_behind : (old mid new : Reader M) (piece : List ℕ) (i : ℕ) (k : Kind) → TookFront B old mid piece i → mid.limit ≡ old.limit → Stopped B mid new (rest i piece) k → Stopped B old new piece k
  stopped_behind old mid new piece i k a same b = record {
    kind = b.kind;
    fault = λ ne bytes h.
        let f : Fault = record { line = new.lines + 1; kind = k } in
        subst (λ (l : ℕ). FaultBehind B l bytes piece f new.machine new.found) same
        (fault_behind B mid.limit bytes piece (take i piece) (rest i piece) f new.machine new.found (whole_is i piece) (b.fault ne (bytes ++ take i piece) (a.accepted bytes h)));
    memory = λ e bytes h.
        due_behind B old.limit bytes piece i
        (subst (λ (l : ℕ). LineIsDue B l (bytes ++ take i piece) (drop i piece)) same
        (subst (LineIsDue B mid.limit (bytes ++ take i piece)) (rest_is i piece) (b.memory e (bytes ++ take i piece) (a.accepted bytes h))));
  }

  -- a step after another
  pub goes_on : (old mid new : Reader M) (piece : List ℕ) (i n : ℕ) → TakesFrontOrStops B old piece mid (Ok i) → TakesFrontOrStops B mid (rest i piece) new (Ok n) → TakesFrontOrStops B old piece new (Ok (i + n))
  goes_on old mid new piece i n a b = takes old new piece (i + n) (b.fault ∙ a.fault) (b.limit ∙ a.limit) (took_behind old mid new piece i n a.took b.took)

  -- and one that stops, whose error is passed on
  pub stops_behind : (old mid new : Reader M) (piece : List ℕ) (i : ℕ) (r : Result ℕ Kind) (k : Kind) → r ≡ Err k → TakesFrontOrStops B old piece mid (Ok i) → TakesFrontOrStops B mid (rest i piece) new (Err k) → TakesFrontOrStops B old piece new r
  stops_behind old mid new piece i r k is a b =
      subst (TakesFrontOrStops B old piece new) (sym is) (stops old new piece k (b.fault ∙ a.fault) (b.limit ∙ a.limit) (stopped_behind old mid new piece i k a.took a.limit b.stopped))

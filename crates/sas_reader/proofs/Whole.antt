-- The laws of any format with a grammar.
use Rattle.std.proofs.lemmas.Grind.{common_steps}
use Rattle.sas_reader.proofs.Imports.{◌≡◌, ◌≢◌, ℕ, ◌+◌, ◌≤◌, List, [], ◌∷◌, ◌++◌, length, map, refl, sym, ap, subst, ◌∙◌, append_assoc, arith, ◌⊎◌, inl, inr, length-append, Ok, Err, append-nil, same_from_push, eqb_tells, lines, unfinished, lines-plain, unfinished-plain, lines-end, Fault, Kind, TooLong, lines_of, Reads, Format, Live, MayFollow, KindAt, too_long, trailing, wrong, FaultOf, EndOf, Node, ended, After, LeadsToEnd, Grammar, OneValue, OneSlot, NoSlotAtEnd, FaultIsDead, OneFault, TextIsLive, FaultIsNoText, OneReading}
use Rattle.sas_reader.proofs.Paths.{cut_at, ended_stops, same_path, ends_split, ends_after, slot_at, takes_at, one_ended}

-- ---- how bytes can be extended: with more lines, or with a longer rest

record Grown (b c : List ℕ) : Type 0 where
  more : List (List ℕ)
  lines_are : lines (b ++ c) ≡ lines b ++ more
  rest_is : more ≡ [] → unfinished (b ++ c) ≡ unfinished b ++ c

none_left : (xs ys : List (List ℕ)) → xs ++ ys ≡ [] → (xs ≡ []) × (ys ≡ [])
none_left [] ys e = (refl, e)
none_left (x ∷ xs) ys e = absurd cc

grows-from : (b c : List ℕ) (x : ℕ) (first : List (List ℕ)) → lines (b ++ x ∷ []) ≡ lines b ++ first → (first ≡ [] → unfinished (b ++ x ∷ []) ≡ unfinished b ++ x ∷ []) → Grown (b ++ x ∷ []) c → Grown b (x ∷ c)
grows-from b c x first e f g = grind (arith, common_steps, append_assoc, none_left)

grows-by : (b c : List ℕ) (x : ℕ) → Grown (b ++ x ∷ []) c → Grown b (x ∷ c)
grows-by b c x g = grind (arith, common_steps, eqb_tells, grows-from, lines-end, lines-plain, append-nil, unfinished-plain)

grows : (b c : List ℕ) → Grown b c
grows b [] = record { more = []; lines_are = ap lines (append-nil b) ∙ sym (append-nil (lines b)); rest_is = λ e. ap unfinished (append-nil b) ∙ sym (append-nil (unfinished b)) }
grows b (x ∷ c) = grows-by b c x (grows (b ++ x ∷ []) c)

-- ---- byte lists with a fault at a byte, cut before that byte

record Longer (d : List ℕ) (x : ℕ) (e : List ℕ) : Type 0 where
  more : List ℕ
  is : e ≡ (d ++ x ∷ []) ++ more

meet : (d e : List ℕ) (x y : ℕ) (a b : List ℕ) → d ++ x ∷ a ≡ e ++ y ∷ b → ((d ≡ e) × (x ≡ y)) ⊎ (Longer d x e ⊎ Longer e y d)
meet [] [] x y a b q = inl (refl, cc)
meet [] (z ∷ e) x y a b q = let h : z ≡ x = cc in inr (inl (record { more = e; is = ap (λ (v : ℕ). v ∷ e) h }))
meet (z ∷ d) [] x y a b q = let h : z ≡ y = cc in inr (inr (record { more = d; is = ap (λ (v : ℕ). v ∷ d) h }))
meet (z ∷ d) (w ∷ e) x y a b q =
    let h : z ≡ w = cc in
    let t : d ++ x ∷ a ≡ e ++ y ∷ b = cc in
    elim (meet d e x y a b t) [
      | inl m ↦ inl (ap (λ (v : ℕ). v ∷ d) h ∙ ap (λ (v : List ℕ). w ∷ v) m.0, m.1)
      | inr (inl m) ↦ inr (inl (record { more = m.more; is = ap (λ (v : ℕ). v ∷ e) (sym h) ∙ ap (λ (v : List ℕ). z ∷ v) m.is }))
      | inr (inr m) ↦ inr (inr (record { more = m.more; is = ap (λ (v : ℕ). v ∷ d) h ∙ ap (λ (v : List ℕ). w ∷ v) m.is }))
    ]

same_fault : (f g : Fault) → f.line ≡ g.line → f.kind ≡ g.kind → f ≡ g
same_fault f g a b = ap (λ (x : ℕ). let r : Fault = record { line = x; kind = f.kind } in r) a ∙ ap (λ (x : Kind). let r : Fault = record { line = g.line; kind = x } in r) b

pub text_is_live : {V I S : Type 0} (F : Format V I S) → TextIsLive F
text_is_live F limit bytes v l r = record { short = l; begun = (v, [], r.good, sym r.lines ∙ sym (append-nil (lines bytes))); whole = λ w h e. r.rest }

module _ {T V I S : Type 0} (F : Format V I S) (Fits : I → Type 0) (node : T → Node T V I S) (start : T) (g : Grammar F Fits node start) where
  same_value : (v w : V) → F.texts.Good v → F.texts.Good w → lines_of F.texts v ≡ lines_of F.texts w → v ≡ w
  same_value v w h k l =
      let a = ends_after F Fits node start v (F.texts.layout v) (g.complete v h) in
      let b = ends_after F Fits node start w (F.texts.layout w) (g.complete w k) in
      let s = same_path F Fits node start g start a.0 b.0 (F.texts.layout v) (F.texts.layout w) a.1 b.1 l in
      one_ended v w (sym a.2 ∙ ap node s.state ∙ b.2)

  pub one_value : OneValue F
  one_value bytes v w r q = same_value v w r.good q.good (sym r.lines ∙ q.lines)

  -- ---- a prefix of live bytes is live

  ends : (p : T) (v w : V) (is : List I) (l : List ℕ) (more : List (List ℕ)) → node p ≡ ended v → LeadsToEnd F Fits node p is w → map F.texts.spelled is ≡ l ∷ more → ⊥
  ends p v w [] l more e a k = absurd cc
  ends p v w (i ∷ is) l more e a k = ended_stops F Fits (node p) v i (λ r. LeadsToEnd F Fits node r is w) e a

  -- the lines of one value are not the first lines of another
  no_more : (v w : V) (l : List ℕ) (more : List (List ℕ)) → F.texts.Good v → F.texts.Good w → lines_of F.texts w ≡ lines_of F.texts v ++ l ∷ more → ⊥
  no_more v w l more h k e =
      let c = cut_at F.texts.spelled (lines_of F.texts v) (l ∷ more) (F.texts.layout w) e in
      let t = ends_split F Fits node start w c.before c.after (subst (λ x. LeadsToEnd F Fits node start x w) c.whole (g.complete w k)) in
      let u = ends_after F Fits node start v (F.texts.layout v) (g.complete v h) in
      let s = same_path F Fits node start g start t.0 u.0 c.before (F.texts.layout v) t.1 u.1 c.front_is in
      ends u.0 v w c.after l more u.2 (subst (λ x. LeadsToEnd F Fits node x c.after w) s.state t.2) c.back_is

  ended_here : (limit : ℕ) (b : List ℕ) (x : ℕ) (c : List ℕ) (v : V) (more : List (List ℕ)) → F.texts.Good v → lines_of F.texts v ≡ lines b → lines (b ++ x ∷ c) ≡ lines b ++ more → (more ≡ [] → unfinished (b ++ x ∷ c) ≡ unfinished b ++ x ∷ c) → Live F limit (b ++ x ∷ c) → ⊥
  ended_here limit b x c v [] h e l f a = omega (arith, length-append (unfinished b) (x ∷ c), ap length (sym (f refl) ∙ a.whole v h (e ∙ sym (append-nil (lines b)) ∙ sym l)))
  ended_here limit b x c v (m ∷ more) h e l f a =
      let w = a.begun in
      no_more v w.0 m (more ++ w.1) h w.2 (w.3 ∙ ap (λ (y : List (List ℕ)). y ++ w.1) (l ∙ ap (λ (y : List (List ℕ)). y ++ m ∷ more) (sym e)) ∙ append_assoc (lines_of F.texts v) (m ∷ more) w.1)

  live-front : (limit : ℕ) (b c : List ℕ) → Live F limit (b ++ c) → Live F limit b
  live-front limit b [] a = subst (Live F limit) (append-nil b) a
  live-front limit b (x ∷ c) a =
      let n = grows b (x ∷ c) in
      let s : length (b ++ x ∷ c) ≤ limit = a.short in
      record {
        short = omega (arith, length-append b (x ∷ c));
        begun = (a.begun.0, n.more ++ a.begun.1, a.begun.2, a.begun.3 ∙ ap (λ (y : List (List ℕ)). y ++ a.begun.1) n.lines_are ∙ append_assoc (lines b) n.more a.begun.1);
        whole = λ v r e. absurd (ended_here limit b x c v n.more r e n.lines_are n.rest_is a);
      }

  pub fault_is_dead : FaultIsDead F
  fault_is_dead limit bytes f h a = h.dead (live-front limit (h.before ++ h.byte ∷ []) h.after (subst (Live F limit) (h.whole ∙ sym (append_assoc h.before (h.byte ∷ []) h.after)) a))

  -- Bytes that aren't live and don't exceed the limit aren't live within any limit.
  any_limit : (limit wide : ℕ) (bytes : List ℕ) → length bytes ≤ limit → Live F wide bytes → Live F limit bytes
  any_limit limit wide bytes l a = record { short = l; begun = a.begun; whole = a.whole }

  within : (limit : ℕ) (bytes : List ℕ) (byte : ℕ) (k : Kind) → KindAt F limit bytes byte k → k ≢ TooLong → length bytes + 1 ≤ limit
  within limit bytes byte k (too_long l e) ne = absurd (ne e)
  within limit bytes byte k (trailing l v r e) ne = l
  within limit bytes byte k (wrong l line h s n e) ne = l

  pub fault_is_no_text : FaultIsNoText F
  fault_is_no_text limit bytes more f v h ne r =
      let front = h.before ++ h.byte ∷ [] in
      let all : (front ++ h.after) ++ more ≡ bytes ++ more = ap (λ (x : List ℕ). x ++ more) (append_assoc h.before (h.byte ∷ []) h.after ∙ sym h.whole) in
      let a : Live F (length (bytes ++ more)) ((front ++ h.after) ++ more) = subst (Live F (length (bytes ++ more))) (sym all) (text_is_live F (length (bytes ++ more)) (bytes ++ more) v (omega arith) r) in
      let b = live-front (length (bytes ++ more)) front h.after (live-front (length (bytes ++ more)) (front ++ h.after) more a) in
      h.dead (any_limit limit (length (bytes ++ more)) front (let w = within limit h.before h.byte f.kind h.kind ne in omega (arith, w, length-append h.before (h.byte ∷ []))) b)

  -- ---- one slot

  record Stop (ls : List (List ℕ)) (i : I) : Type 0 where
    state : T
    before : List I
    after : After F Fits node start before state
    spells : map F.texts.spelled before ≡ ls
    slot : (s : S) → F.slot_of i ≡ slot_at (node state) s
    value : V
    more : List I
    goes : LeadsToEnd F Fits node state (i ∷ more) value

  stop_of : (ls : List (List ℕ)) (s : S) (n : MayFollow F ls s) → Stop ls n.item
  stop_of ls s n =
      let t = ends_split F Fits node start n.value n.before (n.item ∷ n.more) (subst (λ x. LeadsToEnd F Fits node start x n.value) n.layout (g.complete n.value n.good)) in
      record { state = t.0; before = n.before; after = t.1; spells = n.spells; slot = λ z. takes_at F Fits (node t.0) n.item (λ r. LeadsToEnd F Fits node r n.more n.value) z t.2; value = n.value; more = n.more; goes = t.2 }

  pub one_slot : OneSlot F
  one_slot ls s t n m =
      let a = stop_of ls s n in
      let b = stop_of ls t m in
      let same = same_path F Fits node start g start a.state b.state a.before b.before a.after b.after (a.spells ∙ sym b.spells) in
      sym n.slot ∙ a.slot s ∙ ap (λ q. slot_at (node q) s) same.state ∙ sym (b.slot s) ∙ m.slot

  pub no_slot_at_end : NoSlotAtEnd F
  no_slot_at_end ls s v n h e =
      let a = stop_of ls s n in
      let u = ends_after F Fits node start v (F.texts.layout v) (g.complete v h) in
      let same = same_path F Fits node start g start a.state u.0 a.before (F.texts.layout v) a.after u.1 (a.spells ∙ sym e) in
      ended_stops F Fits (node a.state) v n.item (λ r. LeadsToEnd F Fits node r a.more a.value) (ap node same.state ∙ u.2) a.goes

  -- ---- one fault

  one_kind : (limit : ℕ) (bytes : List ℕ) (x : ℕ) (k j : Kind) → KindAt F limit bytes x k → KindAt F limit bytes x j → k ≡ j
  one_kind limit bytes x k j (too_long l e) (too_long m f) = e ∙ sym f
  one_kind limit bytes x k j (too_long l e) (trailing m v r f) = absurd (omega arith)
  one_kind limit bytes x k j (too_long l e) (wrong m line h s n f) = absurd (omega arith)
  one_kind limit bytes x k j (trailing l v r e) (too_long m f) = absurd (omega arith)
  one_kind limit bytes x k j (trailing l v r e) (trailing m w q f) = e ∙ sym f
  one_kind limit bytes x k j (trailing l v r e) (wrong m line h s n f) = absurd (no_slot_at_end (lines bytes) s v n r.good (sym r.lines))
  one_kind limit bytes x k j (wrong l line h s n e) (too_long m f) = absurd (omega arith)
  one_kind limit bytes x k j (wrong l line h s n e) (trailing m v r f) = absurd (no_slot_at_end (lines bytes) s v n r.good (sym r.lines))
  one_kind limit bytes x k j (wrong l line h s n e) (wrong m other i t o f) =
      g.one_kind s line k j e (subst (λ y. F.KindOf y line j) (one_slot (lines bytes) t s o n) (subst (λ (y : List ℕ). F.KindOf t y j) (same_from_push (lines bytes) (lines bytes) other line (sym i ∙ h)).1 f))

  not_longer : (limit : ℕ) (bytes : List ℕ) (f h : Fault) (a : FaultOf F limit bytes f) (b : FaultOf F limit bytes h) → Longer a.before a.byte b.before → ⊥
  not_longer limit bytes f h a b m = a.dead (live-front limit (a.before ++ a.byte ∷ []) m.more (subst (Live F limit) m.is b.live))

  -- and one place of the fault
  pub one_place : (limit : ℕ) (bytes : List ℕ) (f : Fault) (h k : FaultOf F limit bytes f) → (h.before ≡ k.before) × (h.byte ≡ k.byte)
  one_place limit bytes f h k =
      elim (meet h.before k.before h.byte k.byte h.after k.after (sym h.whole ∙ k.whole)) [
        | inl m ↦ m
        | inr (inl m) ↦ absurd (not_longer limit bytes f f h k m)
        | inr (inr m) ↦ absurd (not_longer limit bytes f f k h m)
      ]

  at_one : (limit : ℕ) (bytes : List ℕ) (f h : Fault) (a : FaultOf F limit bytes f) (b : FaultOf F limit bytes h) → a.before ≡ b.before → a.byte ≡ b.byte → f ≡ h
  at_one limit bytes f h a b p q =
      same_fault f h (a.line ∙ ap (λ (v : List ℕ). length (lines v) + 1) p ∙ sym b.line)
      (one_kind limit b.before b.byte f.kind h.kind (subst (λ (v : List ℕ). KindAt F limit v b.byte f.kind) p (subst (λ (v : ℕ). KindAt F limit a.before v f.kind) q a.kind)) b.kind)

  pub one_fault : OneFault F
  one_fault limit bytes f h a b =
      elim (meet a.before b.before a.byte b.byte a.after b.after (sym a.whole ∙ b.whole)) [
        | inl m ↦ at_one limit bytes f h a b m.0 m.1
        | inr (inl m) ↦ absurd (not_longer limit bytes f h a b m)
        | inr (inr m) ↦ absurd (not_longer limit bytes h f b a m)
      ]

  -- ---- one reading

  read_is_live : (limit : ℕ) (bytes : List ℕ) (v : V) → Reads F.texts bytes v × (length bytes ≤ limit) → Live F limit bytes
  read_is_live limit bytes v r = text_is_live F limit bytes v r.1 r.0

  read_or_fault : (limit : ℕ) (bytes : List ℕ) (v : V) (f : Fault) → Reads F.texts bytes v × (length bytes ≤ limit) → FaultOf F limit bytes f ⊎ EndOf F limit bytes f → ⊥
  read_or_fault limit bytes v f r (inl h) = fault_is_dead limit bytes f h (read_is_live limit bytes v r)
  read_or_fault limit bytes v f r (inr h) = h.none v r.0

  same_refusal : (limit : ℕ) (bytes : List ℕ) (f h : Fault) → FaultOf F limit bytes f ⊎ EndOf F limit bytes f → FaultOf F limit bytes h ⊎ EndOf F limit bytes h → f ≡ h
  same_refusal limit bytes f h (inl a) (inl b) = one_fault limit bytes f h a b
  same_refusal limit bytes f h (inl a) (inr b) = absurd (fault_is_dead limit bytes f a b.live)
  same_refusal limit bytes f h (inr a) (inl b) = absurd (fault_is_dead limit bytes h b a.live)
  same_refusal limit bytes f h (inr a) (inr b) = same_fault f h (a.line ∙ sym b.line) (a.kind ∙ sym b.kind)

  pub one_reading : OneReading F
  one_reading limit bytes (Ok v) (Ok w) a b = ap (λ x. Ok x) (one_value bytes v w a.0 b.0)
  one_reading limit bytes (Ok v) (Err f) a b = absurd (read_or_fault limit bytes v f a b)
  one_reading limit bytes (Err f) (Ok v) a b = absurd (read_or_fault limit bytes v f b a)
  one_reading limit bytes (Err f) (Err h) a b = ap (λ x. Err x) (same_refusal limit bytes f h a b)

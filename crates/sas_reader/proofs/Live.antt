-- What a path through the states implies for the bytes, for any format with a grammar.
use Rattle.sas_reader.proofs.Imports.{◌≡◌, ℕ, ◌+◌, ◌≤◌, ◌≢◌, Bool, List, [], ◌∷◌, ◌++◌, length, map, refl, sym, ap, subst, ◌∙◌, append_assoc, arith, inl, inr, length-append, length_push, append-nil, eqb_tells, without_return, lines, unfinished, lines-none, unfinished-none, lines-plain, unfinished-plain, lines-end, unfinished-end, Fault, Kind, End, Trailing, TooLong, lines_of, Reads, Format, IsBegun, Live, MayFollow, KindAt, too_long, trailing, wrong, FaultOf, EndOf, Node, ended, before, OneLine, After, LeadsToEnd, IsRejected, Rejects, Leads, Grammar}
use Rattle.sas_reader.proofs.Paths.{Path, cut_at, map-append, ended_stops, after_append, after_ends, ends_split, ends_after, same_path}

-- one more byte
abbrev pub one_more : List ℕ → ℕ → List ℕ
one_more bytes byte = bytes ++ byte ∷ []

module _ {T V I S : Type 0} (F : Format V I S) (Fits : I → Type 0) (node : T → Node T V I S) (start : T) where
  -- ---- paths

  pub path_start : Path F Fits node start start []
  path_start = record { leads = record { items = []; after = refl; spells = sym lines-none }; ended = λ v e. unfinished-none }

  pub path_plain : (p : T) (bytes : List ℕ) (byte : ℕ) → Path F Fits node start p bytes → byte ≢ 10 → ((v : V) → node p ≡ ended v → ⊥) → Path F Fits node start p (one_more bytes byte)
  path_plain p bytes byte h ne going = record { leads = subst (λ (l : List (List ℕ)). Leads F Fits node start l p) (sym (lines-plain bytes byte ne)) h.leads; ended = λ v e. absurd (going v e) }

  pub leads_line : (p q : T) (ls : List (List ℕ)) (i : I) → Leads F Fits node start ls p → After F Fits node p (i ∷ []) q → Leads F Fits node start (ls ++ F.texts.spelled i ∷ []) q
  leads_line p q ls i h a = record {
    items = h.items ++ i ∷ [];
    after = after_append F Fits node start p q h.items (i ∷ []) h.after a;
    spells = map-append F.texts.spelled h.items (i ∷ []) ∙ ap (λ (l : List (List ℕ)). l ++ F.texts.spelled i ∷ []) h.spells;
  }

  pub path_line : (p q : T) (bytes : List ℕ) (i : I) → Path F Fits node start p bytes → After F Fits node p (i ∷ []) q → F.texts.spelled i ≡ without_return (unfinished bytes) → Path F Fits node start q (one_more bytes 10)
  path_line p q bytes i h a e = record {
    leads = subst (λ (l : List (List ℕ)). Leads F Fits node start l q) (ap (λ (l : List ℕ). lines bytes ++ l ∷ []) e ∙ sym (lines-end bytes)) (leads_line p q (lines bytes) i h.leads a);
    ended = λ v f. unfinished-end bytes;
  }

module _ {T V I S : Type 0} (F : Format V I S) (Fits : I → Type 0) (node : T → Node T V I S) (start : T) (g : Grammar F Fits node start) where
  begun : (p : T) (ls : List (List ℕ)) → Leads F Fits node start ls p → IsBegun F ls
  begun p ls h =
      let c = g.fillable h.items p h.after in
      let s = g.sound (h.items ++ c.0) c.1 (after_ends F Fits node start p c.1 h.items c.0 h.after c.2) in
      (c.1, map F.texts.spelled c.0, s.0, ap (map F.texts.spelled) (sym s.1) ∙ map-append F.texts.spelled h.items c.0 ∙ ap (λ (l : List (List ℕ)). l ++ map F.texts.spelled c.0) h.spells)

  whole : (p : T) (ls : List (List ℕ)) → Leads F Fits node start ls p → (v : V) → F.texts.Good v → lines_of F.texts v ≡ ls → node p ≡ ended v
  whole p ls h v w e =
      let a = ends_after F Fits node start v (F.texts.layout v) (g.complete v w) in
      let s = same_path F Fits node start g start p a.0 h.items (F.texts.layout v) h.after a.1 (h.spells ∙ sym e) in
      ap node s.state ∙ a.2

  pub live : (limit : ℕ) (p : T) (bytes : List ℕ) → length bytes ≤ limit → Path F Fits node start p bytes → Live F limit bytes
  live limit p bytes l h = record { short = l; begun = begun p (lines bytes) h.leads; whole = λ v w e. h.ended v (whole p (lines bytes) h.leads v w e) }

  first : (p : T) (v : V) (is : List I) (line : List ℕ) (more : List (List ℕ)) → LeadsToEnd F Fits node p is v → map F.texts.spelled is ≡ line ∷ more → (i : I) × (js : List I) × LeadsToEnd F Fits node p (i ∷ js) v × (F.texts.spelled i ≡ line)
  first p v [] line more a e = absurd cc
  first p v (i ∷ is) line more a e = (i, is, a, cc)

  -- if a value has more lines after these, the next one is a line that the state takes
  goes_on : (p : T) (ls : List (List ℕ)) (line : List ℕ) (more : List (List ℕ)) → Leads F Fits node start ls p → (v : V) → F.texts.Good v → lines_of F.texts v ≡ (ls ++ line ∷ []) ++ more → (i : I) × (is : List I) × LeadsToEnd F Fits node p (i ∷ is) v × (F.texts.spelled i ≡ line)
  goes_on p ls line more h v w e =
      let c = cut_at F.texts.spelled ls (line ∷ more) (F.texts.layout v) (e ∙ append_assoc ls (line ∷ []) more) in
      let t = ends_split F Fits node start v c.before c.after (subst (λ x. LeadsToEnd F Fits node start x v) c.whole (g.complete v w)) in
      let same = same_path F Fits node start g start t.0 p c.before h.items t.1 h.after (c.front_is ∙ sym h.spells) in
      first p v c.after line more (subst (λ x. LeadsToEnd F Fits node x c.after v) same.state t.2) c.back_is

  no_line : (p : T) (ls : List (List ℕ)) (line : List ℕ) → Leads F Fits node start ls p → ((i : I) (is : List I) (v : V) → LeadsToEnd F Fits node p (i ∷ is) v → F.texts.spelled i ≡ line → ⊥) → IsBegun F (ls ++ line ∷ []) → ⊥
  no_line p ls line h none b =
      let t = goes_on p ls line b.1 h b.0 b.2 b.3 in
      none t.0 t.1 b.0 t.2 t.3

  -- ---- the fault at one byte

  fault_at : (limit : ℕ) (p : T) (bytes : List ℕ) (byte : ℕ) (f : Fault) → Path F Fits node start p bytes → length bytes ≤ limit → f.line ≡ length (lines bytes) + 1 → (Live F limit (one_more bytes byte) → ⊥) → KindAt F limit bytes byte f.kind → FaultOf F limit (one_more bytes byte) f
  fault_at limit p bytes byte f h l n dead k = record { before = bytes; byte = byte; after = []; whole = refl; live = live limit p bytes l h; dead = dead; line = n; kind = k }

  pub fault_long : (limit : ℕ) (p : T) (bytes : List ℕ) (byte : ℕ) (f : Fault) → Path F Fits node start p bytes → length bytes ≡ limit → f.line ≡ length (lines bytes) + 1 → f.kind ≡ TooLong → FaultOf F limit (one_more bytes byte) f
  fault_long limit p bytes byte f h l n k = fault_at limit p bytes byte f h (omega arith) n (λ x. let s : length (one_more bytes byte) ≤ limit = x.short in omega (arith, length-append bytes (byte ∷ []))) (too_long (omega arith) k)

  pub reads_done : (p : T) (v : V) (bytes : List ℕ) → node p ≡ ended v → Path F Fits node start p bytes → Reads F.texts bytes v
  reads_done p v bytes e h =
      let s = g.sound (h.leads.items ++ []) v (after_ends F Fits node start p v h.leads.items [] h.leads.after e) in
      record { good = s.0; lines = sym h.leads.spells ∙ ap (map F.texts.spelled) (sym (append-nil h.leads.items) ∙ s.1); rest = h.ended v e }

  pub done_dead : (limit : ℕ) (p : T) (v : V) (bytes : List ℕ) (byte : ℕ) → node p ≡ ended v → Path F Fits node start p bytes → Live F limit (one_more bytes byte) → ⊥
  done_dead limit p v bytes byte d h x =
      elim (eqb_tells byte 10) [
        | inl y ↦ no_line p (lines bytes) (without_return (unfinished bytes)) h.leads (λ i is w a _. ended_stops F Fits (node p) v i (λ r. LeadsToEnd F Fits node r is w) d a) (subst (IsBegun F) (ap (λ (b : ℕ). lines (one_more bytes b)) y.1 ∙ lines-end bytes) x.begun)
        | inr n ↦
            let r = reads_done p v bytes d h in
            omega (arith, length_push (unfinished bytes) byte, ap length (sym (unfinished-plain bytes byte n.1) ∙ x.whole v r.good (sym r.lines ∙ sym (lines-plain bytes byte n.1))))
      ]

  pub fault_done : (limit : ℕ) (p : T) (v : V) (bytes : List ℕ) (byte : ℕ) (f : Fault) → node p ≡ ended v → Path F Fits node start p bytes → length bytes + 1 ≤ limit → f.line ≡ length (lines bytes) + 1 → f.kind ≡ Trailing → FaultOf F limit (one_more bytes byte) f
  fault_done limit p v bytes byte f d h l n k = fault_at limit p bytes byte f h (omega arith) n (done_dead limit p v bytes byte d h) (trailing l v (reads_done p v bytes d h) k)

  -- a state before a line: every completion begins with a line of its slot
  begins : (p : T) (s : S) (ok : I → Bool) (next : I → T) (v : V) (is : List I) → node p ≡ before s ok next → LeadsToEnd F Fits node p is v → (i : I) × (js : List I) × (is ≡ i ∷ js) × (F.slot_of i ≡ s)
  begins p s ok next v [] e a = absurd cc
  begins p s ok next v (i ∷ is) e a = (i, is, refl, ((subst (λ n. OneLine F Fits n i (λ r. LeadsToEnd F Fits node r is v)) e a).0).slot)

  pub next_slot : (p : T) (s : S) (ok : I → Bool) (next : I → T) (ls : List (List ℕ)) → node p ≡ before s ok next → Leads F Fits node start ls p → MayFollow F ls s
  next_slot p s ok next ls e h =
      let c = g.fillable h.items p h.after in
      let w = g.sound (h.items ++ c.0) c.1 (after_ends F Fits node start p c.1 h.items c.0 h.after c.2) in
      let b = begins p s ok next c.1 c.0 e c.2 in
      record { value = c.1; before = h.items; item = b.0; more = b.1; good = w.0; layout = sym w.1 ∙ ap (λ x. h.items ++ x) b.2; spells = h.spells; slot = b.3 }

  pub line_dead : (limit : ℕ) (p : T) (s : S) (ok : I → Bool) (next : I → T) (bytes : List ℕ) (k : Kind) → node p ≡ before s ok next → Path F Fits node start p bytes → IsRejected F Fits s ok (without_return (unfinished bytes)) k → Live F limit (one_more bytes 10) → ⊥
  line_dead limit p s ok next bytes k e h j x = no_line p (lines bytes) (without_return (unfinished bytes)) h.leads (λ i is v a q. j.none i ((subst (λ n. OneLine F Fits n i (λ r. LeadsToEnd F Fits node r is v)) e a).0) q) (subst (IsBegun F) (lines-end bytes) x.begun)

  pub fault_line : (limit : ℕ) (p : T) (s : S) (ok : I → Bool) (next : I → T) (bytes : List ℕ) (f : Fault) → node p ≡ before s ok next → Path F Fits node start p bytes → IsRejected F Fits s ok (without_return (unfinished bytes)) f.kind → length bytes + 1 ≤ limit → f.line ≡ length (lines bytes) + 1 → FaultOf F limit (one_more bytes 10) f
  fault_line limit p s ok next bytes f e h j l n =
      fault_at limit p bytes 10 f h (omega arith) n (line_dead limit p s ok next bytes f.kind e h j) (wrong l (without_return (unfinished bytes)) (lines-end bytes) s (next_slot p s ok next (lines bytes) e h.leads) j.kind)

  -- a line that the node rejects
  pub rejected_as : (n : Node T V I S) (line : List ℕ) (k : Kind) → Rejects F Fits n line k → (s : S) × (ok : I → Bool) × (next : I → T) × (n ≡ before s ok next) × IsRejected F Fits s ok line k
  rejected_as (ended v) line k r = absurd r
  rejected_as (before s ok next) line k r = (s, ok, next, refl, r)

  pub fault_rejected : (limit : ℕ) (p : T) (bytes : List ℕ) (f : Fault) → Path F Fits node start p bytes → Rejects F Fits (node p) (without_return (unfinished bytes)) f.kind → length bytes + 1 ≤ limit → f.line ≡ length (lines bytes) + 1 → FaultOf F limit (one_more bytes 10) f
  fault_rejected limit p bytes f h r l n =
      let j = rejected_as (node p) (without_return (unfinished bytes)) f.kind r in
      fault_line limit p j.0 j.1 j.2 bytes f j.3 h j.4 l n

  pub end_open : (limit : ℕ) (p : T) (bytes : List ℕ) (f : Fault) → Path F Fits node start p bytes → ((v : V) → node p ≡ ended v → ⊥) → length bytes ≤ limit → f.line ≡ length (lines bytes) + 1 → f.kind ≡ End → EndOf F limit bytes f
  end_open limit p bytes f h going l n k = record {
    live = live limit p bytes l h;
    none = λ v r. going v (whole p (lines bytes) h.leads v r.good (sym r.lines));
    line = n;
    kind = k;
  }

-- more bytes don't change a fault
unfoldable pub fault_stays : {V I S : Type 0} (F : Format V I S) (limit : ℕ) (bytes more : List ℕ) (f : Fault) → FaultOf F limit bytes f → FaultOf F limit (bytes ++ more) f
fault_stays F limit bytes more f h = record { before = h.before; byte = h.byte; after = h.after ++ more; whole = ap (λ (b : List ℕ). b ++ more) h.whole ∙ append_assoc h.before (h.byte ∷ h.after) more; live = h.live; dead = h.dead; line = h.line; kind = h.kind }

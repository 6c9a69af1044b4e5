-- What a refusal explains, for a machine that follows a grammar.
use Rattle.sas_reader.proofs.Imports.{Behavior, ◌≡◌, ℕ, ◌≤◌, List, [], ◌∷◌, ◌++◌, length, refl, sym, ap, subst, ◌∙◌, arith, inl, inr, Option, Ok, Err, IsAtEnd, Device, without_return, lines, unfinished, lines-end, Fault, Excerpt, Refusal, ConcernsText, IsAbout, of_line, of_byte, of_end, Refuses, ReadsAll, Format, Live, trailing, wrong, FaultOf, IsFoundOf, most_bytes, Reached, Stops, full, over, rejected, FaultIn, EndsEarly, IsRefused, ReadFails, unread, early, faulty, FeedsMachine, ExplainsRefusal, ReadsOrExplains, StandsBehind, behind_line, behind_text, at_end, Node, Grammar}
use Rattle.sas_reader.proofs.Conversion.{Follows, path_of, end_of_format, device_refusal}
use Rattle.sas_reader.proofs.Live.{live, done_dead, line_dead, rejected_as, next_slot, reads_done}
use Rattle.sas_reader.proofs.Reading.{reads_all, refuses_all}

module _ {T V I S M : Type 0} (F : Format V I S) (Fits : I → Type 0) (node : T → Node T V I S) (start : T) (g : Grammar F Fits node start) (B : Behavior M) (follows : Follows F Fits node start B) where
  -- what the fault is about, the kept text, and the state of the machine after the fault
  pub record Answer (limit : ℕ) (bytes : List ℕ) (f : Fault) (now : M) (found : Excerpt) : Type 0 where
    pub accepted : List (List ℕ)
    pub text : List ℕ
    pub about : IsAbout F limit bytes f accepted text
    pub kept : IsFoundOf f.kind text found
    pub stands : StandsBehind B accepted text f.kind now

  fault_reported : (limit : ℕ) (bytes : List ℕ) (f : Fault) (now : M) (found : Excerpt) → ConcernsText f.kind → (h : FaultIn B limit bytes f now found) → Stops B limit h.machine h.front h.byte f.kind now found → Answer limit bytes f now found
  fault_reported limit bytes f now found reported h (full l k) = absurd (reported.1 k)
  fault_reported limit bytes f now found reported h (over l d k stays is) =
      let a = follows (lines h.front) h.machine h.reached.led in
      let path = path_of F Fits node start g B follows h.machine h.front h.reached in
      let v = a.value d in
      let reads = reads_done F Fits node start g a.state v.0 h.front v.1 path in
      let fault : FaultOf F limit bytes f = record { before = h.front; byte = h.byte; after = h.after; whole = h.whole; live = live F Fits node start g limit a.state h.front (omega (arith, l)) path; dead = done_dead F Fits node start g limit a.state v.0 h.front h.byte v.1 path; line = h.line; kind = trailing l v.0 reads k } in
      record {
        accepted = lines h.front;
        text = h.byte ∷ [];
        about = of_byte fault refl refl v.0 reads k;
        kept = is;
        stands = behind_text (subst (λ (m : M). B.led_by (lines h.front) m) (sym stays) h.reached.led) (subst B.ended (sym stays) d) k;
      }
  fault_reported limit bytes f now found reported h (rejected l going b r behind is) =
      let line = without_return (unfinished h.front) in
      let a = follows (lines h.front) h.machine h.reached.led in
      let path = path_of F Fits node start g B follows h.machine h.front h.reached in
      let refused = a.refuses line f.kind going r in
      let j = rejected_as F Fits node start g (node a.state) line f.kind refused in
      let ended : lines (h.front ++ h.byte ∷ []) ≡ lines h.front ++ line ∷ [] = ap (λ (y : ℕ). lines (h.front ++ y ∷ [])) b ∙ lines-end h.front in
      let next = next_slot F Fits node start g a.state j.0 j.1 j.2 (lines h.front) j.3 a.leads in
      let dead = line_dead F Fits node start g limit a.state j.0 j.1 j.2 h.front f.kind j.3 path j.4 in
      let fault : FaultOf F limit bytes f = record { before = h.front; byte = h.byte; after = h.after; whole = h.whole; live = live F Fits node start g limit a.state h.front (omega (arith, l)) path; dead = subst (λ (y : ℕ). Live F limit (h.front ++ y ∷ []) → ⊥) (sym b) dead; line = h.line; kind = wrong l line ended j.0 next j.4.kind } in
      record {
        accepted = lines h.front;
        text = line;
        about = of_line fault refl ended j.0 next j.4.kind;
        kept = is;
        stands = behind_line h.machine h.reached.led going r behind;
      }

  end_reported : (limit : ℕ) (bytes : List ℕ) (f : Fault) (now : M) (found : Excerpt) → EndsEarly B limit bytes f now found → Answer limit bytes f now found
  end_reported limit bytes f now found h = record {
    accepted = lines bytes;
    text = unfinished bytes;
    about = of_end (end_of_format F Fits node start g B follows limit bytes f now found h) refl refl;
    kept = h.rest;
    stands = at_end h.reached.led h.open_still h.kind;
  }

  pub explained_by : (limit : ℕ) (bytes : List ℕ) (r : Refusal M) → ConcernsText r.fault.kind → IsRefused B limit bytes r → Answer limit bytes r.fault r.machine r.found
  explained_by limit bytes r reported (inl h) = fault_reported limit bytes r.fault r.machine r.found reported h h.stops
  explained_by limit bytes r reported (inr h) = end_reported limit bytes r.fault r.machine r.found h

  device_reported : (bytes : List ℕ) (End : Type 0) (r : Refusal M) → ConcernsText r.fault.kind → ReadFails B most_bytes bytes End r → Answer most_bytes bytes r.fault r.machine r.found
  device_reported bytes End r reported (unread m h l n k) = absurd (reported.0 k)
  device_reported bytes End r reported (early e h) = explained_by most_bytes bytes r reported (inr h)
  device_reported bytes End r reported (faulty h ne) = explained_by most_bytes bytes r reported (inl h)

  -- ---- a refusal X that is made from that of the machine

  module _ {X : Type 0} (fault : X → Fault) (found : X → Excerpt) (Why : List (List ℕ) → List ℕ → X → Type 0) (r : Refusal M) (x : X) (same : fault x ≡ r.fault) (same_found : found x ≡ r.found)
      (why : (a : List (List ℕ)) (t : List ℕ) → StandsBehind B a t r.fault.kind r.machine → IsFoundOf r.fault.kind t r.found → Why a t x) where
    pub explains : (bytes : List ℕ) → Answer most_bytes bytes r.fault r.machine r.found → ExplainsRefusal F fault found Why bytes x
    explains bytes w = record {
      accepted = w.accepted;
      text = w.text;
      about = subst (λ (f : Fault). IsAbout F most_bytes bytes f w.accepted w.text) (sym same) w.about;
      kept = subst (λ (f : Fault). IsFoundOf f.kind w.text (found x)) (sym same) (subst (IsFoundOf r.fault.kind w.text) (sym same_found) w.kept);
      why = why w.accepted w.text w.stands w.kept;
    }

    pub refuses_explained : {D A : Type 0} (left : D → Option (List ℕ)) (Gives : List ℕ → A → Type 0) (old new : Device D) → FeedsMachine B left most_bytes old new (Err r) → ReadsOrExplains F fault found Why left Gives old new (Err x)
    refuses_explained left Gives old new h = record {
      plain = subst (λ (f : Fault). ReadsAll left F Gives old new (Err f)) (sym same) (refuses_all F Fits node start g B follows left Gives old new r h);
      explained = λ is_explained.
          let reported : ConcernsText r.fault.kind = subst (λ (f : Fault). ConcernsText f.kind) same is_explained in
          let t = h.refused reported.2 in
          let End = IsAtEnd (left new.device) in (
            t.0,
            t.1,
            subst (λ (f : Fault). Refuses F t.0 End f) (sym same) (device_refusal F Fits node start g B follows t.0 End r t.2),
            explains t.0 (device_reported t.0 End r reported t.2),
          );
    }

  -- and what was read
  pub reads_explained : {D A X : Type 0} (fault : X → Fault) (found : X → Excerpt) (Why : List (List ℕ) → List ℕ → X → Type 0) (left : D → Option (List ℕ)) (Gives : List ℕ → A → Type 0) (old new : Device D) (m : M) (a : A) → FeedsMachine B left most_bytes old new (Ok m)
      → ((b : List ℕ) → Reached B m b → length b ≤ most_bytes → Gives b a) → ReadsOrExplains F fault found Why left Gives old new (Ok a)
  reads_explained fault found Why left Gives old new m a h gives = record { plain = reads_all F Fits node start g B follows left Gives old new m a h gives; explained = tt }

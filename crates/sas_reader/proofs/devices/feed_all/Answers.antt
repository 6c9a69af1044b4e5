use Rattle.std.proofs.lemmas.Grind.{common_steps}
use Rattle.sas_reader.proofs.Imports.{Behavior, refl, ◌≡◌, ◌≢◌, ◌≤◌, ◌<◌, Bool, true, false, ◌+◌, ◌++◌, ℕ, List, length, ap, subst, ◌∙◌, sym, arith, inl, inr, take, Result, Ok, Err, None, Some, Option, IsTrue, Consumes, IsAtEnd, Consumes-nil, Consumes-trans, Consumes-kept, append-nil, length-take-le, false≢true, Device, Fault, Reader, Refusal, answer, LineIsDue, FaultIn, IsRefused, Stands, ReadFails, unread, early, faulty, ReachesEnd, FeedsMachine}
use Rattle.sas_reader.specs.declared.fault.Kind.TheVariants as kinds
use Rattle.sas_reader.proofs.Standing.{accepted_of, fault_of}
use Rattle.sas_reader.proofs.devices.feed_all.Goals as goal

module _ {M D : Type 0} (B : Behavior M) (left : D → Option (List ℕ)) where
  -- a refusal, by its reason other than `Memory`
  pub refused_as : (limit : ℕ) (old new : Device D) (x r : Refusal M) → x ≡ r → (r.fault.kind ≢ kinds.Memory → (b : List ℕ) × Consumes (left old.device) (left new.device) b × ReadFails B limit b (IsAtEnd (left new.device)) r)
      → (r.fault.kind ≡ kinds.Memory → (b piece : List ℕ) × Consumes (left old.device) (left new.device) (b ++ piece) × LineIsDue B limit b piece) → (r.fault.kind ≡ kinds.Read → IsTrue new.failed) → (IsTrue new.failed → r.fault.kind ≡ kinds.Read)
      → FeedsMachine B left limit old new (Err x)
  refused_as limit old new x r is refused memory read note = subst (λ (y : Refusal M). FeedsMachine B left limit old new (Err y)) (sym is) (record { at_end = tt; reached = tt; refused = refused; memory = memory; note = (read, note) })

  -- the fault that a reader finds at the end of its device
  at_end : (limit : ℕ) (b : List ℕ) (End : Type 0) (r : Refusal M) → End → r.fault.kind ≢ kinds.Read → IsRefused B limit b r → ReadFails B limit b End r
  at_end limit b End r e ne (inl h) = faulty h ne
  at_end limit b End r e ne (inr h) = early e h

  -- a device is read to its end with a reader that has no fault
  ended_so : (limit : ℕ) (old new : Device D) (b : List ℕ) (r : Reader M) (result : Result M (Refusal M)) → ReachesEnd B r result → Stands B r b → r.fault ≡ None → r.limit ≡ limit
      → Consumes (left old.device) (left new.device) b → IsAtEnd (left new.device) → (IsTrue new.failed → ⊥) → FeedsMachine B left limit old new result
  ended_so limit old new b r (Ok m) h s none same took over well = record {
    at_end = h.at_end;
    reached = let reached = h.reached b s in (b, took, over, reached.0, subst (λ (l : ℕ). length b ≤ l) same reached.1);
    refused = tt;
    memory = tt;
    note = (λ e. absurd e, λ t. absurd (well t));
  }
  ended_so limit old new b r (Err e) h s none same took over well =
      let not_read : e.fault.kind ≢ kinds.Read = λ is. (let x = h.refused.read is in let y : None ≡ Some e.fault = sym none ∙ x in cc) in
      refused_as limit old new e e refl
      (λ ne. (b, took, subst (λ (l : ℕ). ReadFails B l b (IsAtEnd (left new.device)) e) same (at_end r.limit b (IsAtEnd (left new.device)) e over not_read (h.refused.fault ne b s))))
      (λ is. let x = h.refused.memory is in let y : None ≡ Some e.fault = sym none ∙ x in absurd cc)
      (λ is. absurd (not_read is))
      (λ t. absurd (well t))

apart : kinds.Read ≡ kinds.Memory → ⊥
apart e = absurd cc

answer_ok : (o : Option Fault) (u : Unit {0}) → Ok u ≡ answer o → o ≡ None
answer_ok None u e = refl
answer_ok (Some f) u e = absurd cc

-- no read failed
not_failed : (b : Bool) → (IsTrue b → false ≡ true) → b ≡ false
not_failed false h = refl
not_failed true h = absurd (false≢true (h refl))

-- the buffer has as much room as before
some_still : (old new : List ℕ) → 0 < length old → length new ≡ length old → 0 < length new
some_still old new some same = subst (λ (n : ℕ). 0 < n) (sym same) some

answer_err : (o : Option Fault) (f : Fault) → answer o ≡ Err f → o ≡ Some f
answer_err None f e = absurd cc
answer_err (Some h) f e = cc

pub returns-in-Err : goal.returns-in-Err
returns-in-Err g c =
    let v = c.loop-n.invariant in
    let b = v.read.0 in
    let r = c.loop-n.reader in
    let h = accepted_of g.M.Machine.behavior r b v.fault v.read.2 in
    let e : Refusal _ = record { fault = record { line = r.lines + 1; kind = kinds.Read }; machine = r.machine; found = r.found } in
    refused_as g.M.Machine.behavior g.R.Read.remaining c.args.reader.limit _ _ _ e c.refused.ensures
    (λ ne. (b, Consumes-kept _ _ _ b v.read.1 c.in-Err.ensures.bytes, unread r.machine h.reached (omega (arith, h.taken, r.within, v.limit)) (ap (λ (n : ℕ). n + 1) h.lines) refl))
    (λ is. absurd {0} (apart is))
    (λ is. c.in-Err.ensures.note.0 refl)
    (λ t. refl)

pub returns-then-taken-eq0 : goal.returns-then-taken-eq0
returns-then-taken-eq0 g c =
    let v = c.loop-n.invariant in
    let b = v.read.0 in
    let whole : Consumes _ _ b = subst (Consumes _ _) (ap (λ (n : ℕ). b ++ take n c.take.new.buffer) c.if-taken-eq0.true ∙ append-nil b) (Consumes-trans _ _ _ b _ v.read.1 c.in-Ok.ensures.bytes.0) in
    ended_so g.M.Machine.behavior g.R.Read.remaining c.args.reader.limit _ _ b c.loop-n.reader c.finish.result c.finish.ensures v.read.2 v.fault v.limit whole (c.in-Ok.ensures.bytes.1 c.if-taken-eq0.true (some_still c.bytes-buffer.result.now _ c.bytes-buffer.ensures c.take.auto.buffer)) (λ t. false≢true (c.in-Ok.ensures.note.1 t))

pub returns-in-Err-feed : goal.returns-in-Err-feed
returns-in-Err-feed g c =
    let v = c.loop-n.invariant in
    let b = v.read.0 in
    let f = c.in-Err-feed.fault in
    let next = c.feed.new.self in
    let piece = take c.in-Ok.n c.take.new.buffer in
    let takes = c.in-Err-feed.ensures in
    let s = takes.stands b v.read.2 in
    let not_read : f.kind ≢ kinds.Read = λ e. (takes.kind v.fault).1 e in
    let e : Refusal _ = record { fault = f; machine = next.machine; found = next.found } in
    refused_as g.M.Machine.behavior g.R.Read.remaining c.args.reader.limit _ _ _ e c.refused-in-Err-feed.ensures
    (λ ne. (b ++ piece, Consumes-trans _ _ _ b piece v.read.1 c.in-Ok.ensures.bytes.0, faulty (subst (λ (l : ℕ). FaultIn g.M.Machine.behavior l (b ++ piece) f next.machine next.found) (takes.limit ∙ v.limit) (fault_of g.M.Machine.behavior next f (b ++ piece) (answer_err next.fault f (sym takes.answer)) s ne)) not_read))
    (λ is. (b, piece, Consumes-trans _ _ _ b piece v.read.1 c.in-Ok.ensures.bytes.0, subst (λ (l : ℕ). LineIsDue g.M.Machine.behavior l b piece) v.limit (takes.memory v.fault is b v.read.2)))
    (λ is. absurd (not_read is))
    (λ t. absurd {0} (false≢true (c.in-Ok.ensures.note.1 t)))

pub loop-n-init : goal.loop-n-init
loop-n-init g c = grind (arith, common_steps, Consumes-nil)

pub loop-n-smaller : goal.loop-n-smaller
loop-n-smaller g c = grind (arith, common_steps, length-take-le)

pub loop-n-preserved : goal.loop-n-preserved
loop-n-preserved g c = grind (arith, common_steps, not_failed, some_still, answer_ok, Consumes-trans)

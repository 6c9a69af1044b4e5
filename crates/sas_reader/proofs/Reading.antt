-- The promises of a reader whose machine follows a grammar, in terms of the format.
use Rattle.sas_reader.proofs.Imports.{Behavior, ◌≡◌, ◌≢◌, ℕ, ◌≤◌, List, ◌++◌, length, refl, sym, ap, subst, Option, Some, None, Result, Ok, Err, arith, OnOk, IfErr, Device, Fault, Reader, ReadsAll, answer, Format, Live, FaultOf, ReadsAs, most_bytes, Refusal, Reached, Stands, TakesPiece, RefusedAtEnd, FeedsMachine, View, Feeds, Node, Grammar}
use Rattle.sas_reader.specs.declared.fault.Kind.TheVariants as kinds
use Rattle.sas_reader.proofs.Conversion.{Follows, fault_of_format, live_of_format, refusal, device_refusal, more_is_due}
use Rattle.sas_reader.proofs.Standing.{accepted_of, fault_of}

-- ---- answers

on_ok_answer : (r : Result (Unit {0}) Fault) (o : Option Fault) (P : Type 0) → r ≡ answer o → (o ≡ None → P) → OnOk r P
on_ok_answer (Ok u) None P e h = h refl
on_ok_answer (Ok u) (Some f) P e h = absurd cc
on_ok_answer (Err f) o P e h = tt

if_err_answer : (r : Result (Unit {0}) Fault) (o : Option Fault) (P : Fault → Type 0) → r ≡ answer o → ((f : Fault) → o ≡ Some f → P f) → IfErr r P
if_err_answer (Ok u) o P e h = tt
if_err_answer (Err f) None P e h = absurd cc
if_err_answer (Err f) (Some g) P e h = h f (let q : f ≡ g = cc in ap (λ x. Some x) (sym q))

if_err : {X E : Type 0} (r : Result X E) (P Q : E → Type 0) → IfErr r P → ((e : E) → P e → Q e) → IfErr r Q
if_err (Ok x) P Q p f = tt
if_err (Err e) P Q p f = f e p

module _ {T V I S M : Type 0} (F : Format V I S) (Fits : I → Type 0) (node : T → Node T V I S) (start : T) (g : Grammar F Fits node start) (B : Behavior M) (follows : Follows F Fits node start B) where
  -- ---- pieces

  live_so_far : (r : Reader M) (bytes : List ℕ) → r.fault ≡ None → Stands B r bytes → Live F r.limit bytes
  live_so_far r bytes none s =
      let h = accepted_of B r bytes none s in
      live_of_format F Fits node start g B follows r.limit r.machine bytes (omega (arith, h.taken, r.within)) h.reached

  fault_so_far : (r : Reader M) (bytes : List ℕ) (f : Fault) → r.fault ≡ Some f → f.kind ≢ kinds.Memory → Stands B r bytes → FaultOf F r.limit bytes f
  fault_so_far r bytes f some ne s = fault_of_format F Fits node start g B follows r.limit bytes f r.machine r.found (fault_of B r f bytes some s ne)

  -- the reader, in the form that its promises use
  abbrev pub seen : View V I S (Reader M)
  seen = record { format = F; Stands = λ r bytes. Stands B r bytes; fault = λ r. r.fault; limit = λ r. r.limit }

  pub feeds : (old : Reader M) (piece : List ℕ) (new : Reader M) (result : Result (Unit {0}) Fault) → TakesPiece B old piece new result → Feeds seen old piece new result
  feeds old piece new result h = record {
    stands = h.stands;
    live = on_ok_answer result new.fault _ h.answer (λ none bytes s. subst (λ (l : ℕ). Live F l (bytes ++ piece)) h.limit (live_so_far new (bytes ++ piece) none (h.stands bytes s)));
    fault = if_err_answer result new.fault _ h.answer (λ f some ne bytes s. subst (λ (l : ℕ). FaultOf F l (bytes ++ piece) f) h.limit (fault_so_far new (bytes ++ piece) f some ne (h.stands bytes s)));
    answer = h.answer;
    kept = h.kept;
    kind = h.kind;
    memory = if_err result _ _ h.memory (λ f due none is bytes s. more_is_due F Fits node start g B follows old.limit bytes piece (due none is bytes s));
    limit = h.limit;
  }

  pub end_fault : (r : Reader M) (e : Refusal M) → RefusedAtEnd B r e → e.fault.kind ≢ kinds.Memory → (bytes : List ℕ) → Stands B r bytes → ReadsAs F r.limit bytes (Err e.fault)
  end_fault r e h ne bytes s = refusal F Fits node start g B follows r.limit bytes e (h.fault ne bytes s)

  -- ---- devices

  module _ {D A : Type 0} (left : D → Option (List ℕ)) (Gives : List ℕ → A → Type 0) where
    -- the result is made from the machine at its end
    pub reads_all : (old new : Device D) (m : M) (a : A) → FeedsMachine B left most_bytes old new (Ok m)
        → ((b : List ℕ) → Reached B m b → length b ≤ most_bytes → Gives b a) → ReadsAll left F Gives old new (Ok a)
    reads_all old new m a h gives = let r = h.reached in record { read = (r.0, (r.1, r.2), gives r.0 r.3 r.4); fault = tt; memory = tt; note = h.note }

    pub refuses_all : (old new : Device D) (r : Refusal M) → FeedsMachine B left most_bytes old new (Err r) → ReadsAll left F Gives old new (Err r.fault)
    refuses_all old new r h = record {
      read = tt;
      fault = λ ne. let t = h.refused ne in (t.0, t.1, device_refusal F Fits node start g B follows t.0 _ r t.2);
      memory = λ e. let t = h.memory e in (t.0, t.1, t.2, more_is_due F Fits node start g B follows most_bytes t.0 t.1 t.3);
      note = h.note;
    }

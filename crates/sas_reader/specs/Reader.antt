-- What a reader represents while it reads a text in pieces.
use Rattle.std.specs.Prelude.{◌≡◌, ◌≢◌, ◌⊎◌, ◌↔◌, ℕ, ◌+◌, ◌<◌, ◌≤◌, List, [], ◌∷◌, ◌++◌, length, take}
use Rattle.std.specs.Prelude.{Option, Some, None, Result, IfOk, IfErr, OnOk, IsErrAnd, IsTrue}
use Rattle.std.specs.Io.KnownBytes.{Consumes, IsAtEnd}
use Rattle.sas_lines.specs.Device.{Device}
use Rattle.sas_lines.specs.Lines.{lines, unfinished, without_return}
use Rattle.sas_reader.specs.declared.fault.Fault.{Fault}
use Rattle.sas_reader.specs.declared.fault.Kind.{Kind}
use Rattle.sas_reader.specs.declared.fault.Kind.TheVariants as kinds
use Rattle.sas_reader.specs.declared.found.Excerpt.{Excerpt}
use Rattle.sas_reader.specs.declared.reader.Reader.{Reader}
use Rattle.sas_reader.specs.declared.reader.Refusal.{Refusal}
use Rattle.sas_reader.specs.Faults.{IsOfBytes, answer}
use Rattle.sas_reader.specs.Found.{IsFoundOf}
use Rattle.sas_reader.specs.Machine.{Behavior}

module _ {M : Type 0} (B : Behavior M) where
  -- the machine has accepted the complete lines of the bytes; if it has ended, nothing follows them
  pub record Reached (machine : M) (bytes : List ℕ) : Type 0 where
    pub led : B.led_by (lines bytes) machine
    pub rest : B.ended machine → unfinished bytes ≡ []

  -- the reader has taken the bytes: its machine has accepted their complete lines, and it has their
  -- rest and their length
  pub record Accepted (r : Reader M) (bytes : List ℕ) : Type 0 where
    pub reached : Reached r.machine bytes
    pub pending : r.pending.pending ≡ unfinished bytes
    pub lines : r.lines ≡ length (lines bytes)
    pub taken : r.taken ≡ length bytes

  -- the bytes end early: the machine is in this state, and `found` is their rest
  pub record EndsEarly (limit : ℕ) (bytes : List ℕ) (f : Fault) (machine : M)
      (found : Excerpt) : Type 0 where
    pub reached : Reached machine bytes
    pub open_still : B.ended machine → ⊥
    pub short : length bytes ≤ limit
    pub line : f.line ≡ length (lines bytes) + 1
    pub kind : f.kind ≡ kinds.End
    pub rest : IsFoundOf f.kind (unfinished bytes) found

  -- a line is expected within the piece: after some proper prefix of it, the machine has not ended,
  -- and the limit isn't reached
  pub record LineIsDue (limit : ℕ) (bytes piece : List ℕ) : Type 0 where
    pub machine : M
    pub at : ℕ
    pub within : at < length piece
    pub reached : Reached machine (bytes ++ take at piece)
    pub open_still : B.ended machine → ⊥
    pub room : length (bytes ++ take at piece) < limit

  -- Why the byte may not follow these bytes, after which the machine is `machine`. At the limit
  -- nothing more is known. Otherwise `found` is the byte after a whole text or the refused line,
  -- and `now` is the machine after the fault.
  pub data Stops (limit : ℕ) (machine : M) (bytes : List ℕ) (byte : ℕ) (k : Kind)
      (now : M) (found : Excerpt) : Type 0 where
    full : length bytes ≡ limit → k ≡ kinds.TooLong
        → Stops limit machine bytes byte k now found
    over : length bytes + 1 ≤ limit → B.ended machine → k ≡ kinds.Trailing → now ≡ machine
        → IsFoundOf k (byte ∷ []) found → Stops limit machine bytes byte k now found
    rejected : length bytes + 1 ≤ limit → (B.ended machine → ⊥) → byte ≡ 10
        → B.rejects machine (without_return (unfinished bytes)) k
        → B.stopped machine (without_return (unfinished bytes)) k now
        → IsFoundOf k (without_return (unfinished bytes)) found
        → Stops limit machine bytes byte k now found

  -- a piece after these bytes has this fault with this text, and the machine is in this state
  -- after it
  pub record FaultBehind (limit : ℕ) (bytes piece : List ℕ) (f : Fault) (now : M)
      (found : Excerpt) : Type 0 where
    pub machine : M
    pub front : List ℕ
    pub byte : ℕ
    pub after : List ℕ
    pub whole : piece ≡ front ++ byte ∷ after
    pub reached : Reached machine (bytes ++ front)
    pub line : f.line ≡ length (lines (bytes ++ front)) + 1
    pub stops : Stops limit machine (bytes ++ front) byte f.kind now found

  -- the same for bytes from the start
  abbrev pub FaultIn : ℕ → List ℕ → Fault → M → Excerpt → Type 0
  FaultIn limit bytes f now found = FaultBehind limit [] bytes f now found

  abbrev pub StandsAt : Option Fault → Reader M → List ℕ → Type 0
  StandsAt None r bytes = Accepted r bytes
  StandsAt (Some f) r bytes = f.kind ≢ kinds.Memory → FaultIn r.limit bytes f r.machine r.found

  -- A reader without a fault represents the bytes that it has taken. With a fault, except for
  -- `Memory`, it has the fault of these bytes and the text at the fault.
  unfoldable pub Stands : Reader M → List ℕ → Type 0
  Stands r bytes = StandsAt r.fault r bytes

  -- ---- all pieces

  -- the promise of a call that feeds a piece to a reader
  pub record TakesPiece (old : Reader M) (piece : List ℕ) (new : Reader M)
      (result : Result (Unit {0}) Fault) : Type 0 where
    -- the reader represents the bytes before, followed by the piece
    pub stands : (bytes : List ℕ) → Stands old bytes → Stands new (bytes ++ piece)
    -- the first fault is returned from now on
    pub answer : result ≡ answer new.fault
    pub kept : (f : Fault) → old.fault ≡ Some f → new.fault ≡ Some f
    -- a new fault is one that is found while bytes are read
    pub kind : IfErr result (λ f. old.fault ≡ None → IsOfBytes f.kind)
    -- a call runs out of memory only if a line is expected
    pub memory : IfErr result
        (λ f. old.fault ≡ None → f.kind ≡ kinds.Memory → (bytes : List ℕ) → Stands old bytes
        → LineIsDue old.limit bytes piece)
    pub count : OnOk result (new.taken ≡ old.taken + length piece)
    pub limit : new.limit ≡ old.limit

  -- ---- steps

  -- the reader took the first n bytes of the piece
  pub record TookFront (old new : Reader M) (piece : List ℕ) (n : ℕ) : Type 0 where
    pub within : n ≤ length piece
    pub count : new.taken ≡ old.taken + n
    pub accepted : (bytes : List ℕ) → Accepted old bytes → Accepted new (bytes ++ take n piece)

  -- the reader stopped in the piece: a byte of it may not follow, or it ran out of memory while a
  -- line is expected
  pub record Stopped (old new : Reader M) (piece : List ℕ) (k : Kind) : Type 0 where
    pub kind : IsOfBytes k
    pub fault : k ≢ kinds.Memory → (bytes : List ℕ) → Accepted old bytes
        → FaultBehind old.limit bytes piece (record { line = new.lines + 1; kind = k })
        new.machine new.found
    pub memory : k ≡ kinds.Memory → (bytes : List ℕ) → Accepted old bytes
        → LineIsDue old.limit bytes piece

  -- the promise of a step of a reader: it took this many bytes of the piece, or stopped
  pub record TakesFrontOrStops (old : Reader M) (piece : List ℕ) (new : Reader M)
      (result : Result ℕ Kind) : Type 0 where
    pub took : IfOk result (λ n. TookFront old new piece n)
    pub stopped : IfErr result (λ k. Stopped old new piece k)
    pub fault : new.fault ≡ old.fault
    pub limit : new.limit ≡ old.limit

  -- ---- the end, and a device

  -- the bytes have the fault of the refusal, or end early
  abbrev pub IsRefused : ℕ → List ℕ → Refusal M → Type 0
  IsRefused limit bytes r = FaultIn limit bytes r.fault r.machine r.found
      ⊎ EndsEarly limit bytes r.fault r.machine r.found

  -- why the input is refused at its end; `Memory` and `Read` are reported only if they occurred
  -- before
  pub record RefusedAtEnd (r : Reader M) (e : Refusal M) : Type 0 where
    pub fault : e.fault.kind ≢ kinds.Memory → (bytes : List ℕ) → Stands r bytes
        → IsRefused r.limit bytes e
    pub memory : e.fault.kind ≡ kinds.Memory → r.fault ≡ Some e.fault
    pub read : e.fault.kind ≡ kinds.Read → r.fault ≡ Some e.fault

  -- the promise of a reader at the end: the machine after all lines, or why the input is refused
  pub record ReachesEnd (r : Reader M) (result : Result M (Refusal M)) : Type 0 where
    pub at_end : IfOk result (λ m. B.ended m)
    pub reached : IfOk result (λ m. (bytes : List ℕ) → Stands r bytes
        → Reached m bytes × (length bytes ≤ r.limit))
    pub refused : IfErr result (λ e. RefusedAtEnd r e)
    pub kept : (f : Fault) → r.fault ≡ Some f → IsErrAnd result (λ e. e.fault ≡ f)

  -- Why a device was not read as a whole. Either a read failed after these bytes; or they are all
  -- and end early; or they have a fault.
  pub data ReadFails (limit : ℕ) (bytes : List ℕ) (at_end : Type 0) (r : Refusal M) : Type 0 where
    unread : (machine : M) → Reached machine bytes → length bytes ≤ limit
        → r.fault.line ≡ length (lines bytes) + 1 → r.fault.kind ≡ kinds.Read
        → ReadFails limit bytes at_end r
    early : at_end → EndsEarly limit bytes r.fault r.machine r.found
        → ReadFails limit bytes at_end r
    faulty : FaultIn limit bytes r.fault r.machine r.found → r.fault.kind ≢ kinds.Read
        → ReadFails limit bytes at_end r

  module _ {D : Type 0} (left : D → Option (List ℕ)) where
    -- The promise of a call that feeds the bytes of a device to a machine, to the end or to the
    -- first fault. `left` maps a device to the bytes that are still to be read, if they are known.
    pub record FeedsMachine (limit : ℕ) (old new : Device D)
        (result : Result M (Refusal M)) : Type 0 where
      pub at_end : IfOk result (λ m. B.ended m)
      pub reached : IfOk result (λ m. (b : List ℕ)
          × Consumes (left old.device) (left new.device) b
          × IsAtEnd (left new.device)
          × Reached m b
          × (length b ≤ limit))
      pub refused : IfErr result (λ r. r.fault.kind ≢ kinds.Memory → (b : List ℕ)
          × Consumes (left old.device) (left new.device) b
          × ReadFails limit b (IsAtEnd (left new.device)) r)
      pub memory : IfErr result (λ r. r.fault.kind ≡ kinds.Memory → (b piece : List ℕ)
          × Consumes (left old.device) (left new.device) (b ++ piece)
          × LineIsDue limit b piece)
      pub note : IsErrAnd result (λ r. r.fault.kind ≡ kinds.Read) ↔ IsTrue new.failed

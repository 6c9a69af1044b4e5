-- What is read from a device: a result for its bytes, or why there is none.
use Rattle.std.specs.Prelude.{◌≡◌, ◌≢◌, ◌↔◌, ℕ, ◌+◌, List, ◌++◌, length, Option, Result, Ok, IfOk, IfErr, IsErrAnd, IsTrue}
use Rattle.std.specs.Io.KnownBytes.{Consumes, IsAtEnd}
use Rattle.sas_lines.specs.Device.{Device}
use Rattle.sas_lines.specs.Lines.{lines, text}
use Rattle.sas_reader.specs.declared.fault.Fault.{Fault}
use Rattle.sas_reader.specs.declared.fault.Kind.TheVariants as kinds
use Rattle.sas_reader.specs.Texts.{lines_of}
use Rattle.sas_reader.specs.Format.{Format, Live, FaultOf, EndOf, MoreIsDue, ReadsAs}
use Rattle.sas_reader.specs.Limit.{most_bytes}

module _ {V I S : Type 0} (F : Format V I S) where
  -- the input is a text of the value
  abbrev pub ValueOf : List ℕ → V → Type 0
  ValueOf input v = ReadsAs F most_bytes input (Ok v)

  -- the input is a text of some value, and the bytes are its text in which each line ends with LF
  abbrev pub TextOf : List ℕ → List ℕ → Type 0
  TextOf input bytes = (v : V) × ValueOf input v × (bytes ≡ text (lines_of F.texts v))

  -- Why an input is refused, by the bytes of it that were read. Either a read failed after live
  -- bytes, on the line after their complete ones; or the bytes are all and end early; or they have
  -- a fault.
  pub data Refuses (bytes : List ℕ) (At_end : Type 0) (f : Fault) : Type 0 where
    unread_at : Live F most_bytes bytes → f.line ≡ length (lines bytes) + 1 → f.kind ≡ kinds.Read
        → Refuses bytes At_end f
    ended_at : At_end → EndOf F most_bytes bytes f → Refuses bytes At_end f
    faulty_at : FaultOf F most_bytes bytes f → f.kind ≢ kinds.Read → Refuses bytes At_end f

-- `left` maps a device to the bytes that are still to be read, if they are known.
module _ {D : Type 0} (left : D → Option (List ℕ)) where
  -- these bytes were read from the device
  abbrev pub WasRead : Device D → Device D → List ℕ → Type 0
  WasRead old new bytes = Consumes (left old.device) (left new.device) bytes

  -- and these are all its bytes
  abbrev pub WasReadWhole : Device D → Device D → List ℕ → Type 0
  WasReadWhole old new bytes = WasRead old new bytes × IsAtEnd (left new.device)

  -- The promise of a call that reads a device to its end or to the first fault. `Gives` relates
  -- bytes to their right result.
  pub record ReadsAll {V I S A : Type 0} (F : Format V I S) (Gives : List ℕ → A → Type 0)
      (old new : Device D) (result : Result A Fault) : Type 0 where
    -- all bytes were read, and the result is right for them
    pub read : IfOk result (λ a. (bytes : List ℕ) × WasReadWhole old new bytes × Gives bytes a)
    -- the bytes that were read have the fault, except for `Memory`
    pub fault : IfErr result (λ f. f.kind ≢ kinds.Memory
        → (bytes : List ℕ) × WasRead old new bytes × Refuses F bytes (IsAtEnd (left new.device)) f)
    -- a call runs out of memory only if more bytes are expected after live bytes
    pub memory : IfErr result (λ f. f.kind ≡ kinds.Memory
        → (bytes piece : List ℕ) × WasRead old new (bytes ++ piece)
        × MoreIsDue F most_bytes bytes piece)
    -- a failed read is reported exactly if the device has failed
    pub note : IsErrAnd result (λ f. f.kind ≡ kinds.Read) ↔ IsTrue new.failed

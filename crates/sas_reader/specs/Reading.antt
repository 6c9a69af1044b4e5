-- The promises of a reader of a format, for each of its calls.
use Rattle.std.specs.Prelude.{◌≡◌, ◌≢◌, ℕ, List, [], ◌++◌, Option, Some, None, Result, Ok, Err, IfOk, IfErr, OnOk}
use Rattle.sas_reader.specs.declared.fault.Fault.{Fault}
use Rattle.sas_reader.specs.declared.fault.Kind.TheVariants as kinds
use Rattle.sas_reader.specs.Faults.{IsOfBytes, answer}
use Rattle.sas_reader.specs.Format.{Format, Live, FaultOf, MoreIsDue, ReadsAs}

-- how contracts view a reader R of a format: the bytes that it represents, its first fault, if any,
-- and how many bytes it reads at most
pub record View (V I S R : Type 0) : Type 1 where
  pub format : Format V I S
  pub Stands : R → List ℕ → Type 0
  pub fault : R → Option Fault
  pub limit : R → ℕ

module _ {V I S R : Type 0} (view : View V I S R) where
  -- nothing was read yet, and at most `most` bytes will be read
  pub record Starts (most : ℕ) (reader : R) : Type 0 where
    pub stands : view.Stands reader []
    pub limit : view.limit reader ≡ most
    pub fault : view.fault reader ≡ None

  -- the promise of a call that feeds a piece to a reader
  pub record Feeds (old : R) (piece : List ℕ) (new : R)
      (result : Result (Unit {0}) Fault) : Type 0 where
    -- the reader represents the bytes before, followed by the piece
    pub stands : (bytes : List ℕ) → view.Stands old bytes → view.Stands new (bytes ++ piece)
    -- the result is Ok only if all bytes so far are live
    pub live : OnOk result ((bytes : List ℕ) → view.Stands old bytes
        → Live view.format (view.limit old) (bytes ++ piece))
    -- a fault other than `Memory` is returned only if the bytes have it
    pub fault : IfErr result (λ f. f.kind ≢ kinds.Memory → (bytes : List ℕ) → view.Stands old bytes
        → FaultOf view.format (view.limit old) (bytes ++ piece) f)
    -- the first fault is returned from now on
    pub answer : result ≡ answer (view.fault new)
    pub kept : (f : Fault) → view.fault old ≡ Some f → view.fault new ≡ Some f
    -- a new fault is one that is found while bytes are read
    pub kind : IfErr result (λ f. view.fault old ≡ None → IsOfBytes f.kind)
    -- a call runs out of memory only if more bytes are expected after live bytes
    pub memory : IfErr result (λ f. view.fault old ≡ None → f.kind ≡ kinds.Memory
        → (bytes : List ℕ) → view.Stands old bytes
        → MoreIsDue view.format (view.limit old) bytes piece)
    pub limit : view.limit new ≡ view.limit old

  -- the promise of a reader at the end
  pub record Finishes (reader : R) (result : Result V Fault) : Type 0 where
    -- the value that the bytes are a text of
    pub read : IfOk result (λ v. (bytes : List ℕ) → view.Stands reader bytes
        → ReadsAs view.format (view.limit reader) bytes (Ok v))
    -- the fault of the bytes
    pub fault : IfErr result
        (λ f. f.kind ≢ kinds.Memory → (bytes : List ℕ) → view.Stands reader bytes
        → ReadsAs view.format (view.limit reader) bytes (Err f))
    -- `Memory` is reported only if it occurred before
    pub memory : IfErr result (λ f. f.kind ≡ kinds.Memory → view.fault reader ≡ Some f)
    pub kept : (f : Fault) → view.fault reader ≡ Some f → result ≡ Err f

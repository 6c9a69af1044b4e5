-- What a refusal has besides its fault: the text at the fault, the state of the machine after it,
-- and what follows from both.
use Rattle.std.specs.Prelude.{◌≡◌, ℕ, List, Option, Result, Ok, Err, IfErr}
use Rattle.std.specs.Io.KnownBytes.{IsAtEnd}
use Rattle.sas_lines.specs.Device.{Device}
use Rattle.sas_reader.specs.declared.fault.Fault.{Fault}
use Rattle.sas_reader.specs.declared.fault.Kind.{Kind}
use Rattle.sas_reader.specs.declared.fault.Kind.TheVariants as kinds
use Rattle.sas_reader.specs.declared.found.Excerpt.{Excerpt}
use Rattle.sas_reader.specs.About.{ConcernsText, IsAbout}
use Rattle.sas_reader.specs.Devices.{Refuses, WasRead, ReadsAll}
use Rattle.sas_reader.specs.Format.{Format}
use Rattle.sas_reader.specs.Found.{IsFoundOf}
use Rattle.sas_reader.specs.Limit.{most_bytes}
use Rattle.sas_reader.specs.Machine.{Behavior}

-- the result with the fault of a refusal R alone
abbrev pub by_fault : {A R : Type 0} → (R → Fault) → Result A R → Result A Fault
by_fault fault (Ok a) = Ok a
by_fault fault (Err r) = Err (fault r)

-- A refusal R has a fault and the text found there. `Why` relates the lines accepted before the
-- fault, and the text at the fault, to everything else that the refusal has.
module _ {V I S R : Type 0} (F : Format V I S) (fault : R → Fault) (found : R → Excerpt)
    (Why : List (List ℕ) → List ℕ → R → Type 0) where
  -- the refusal has the text at its fault of these bytes, and what follows from it
  pub record ExplainsRefusal (bytes : List ℕ) (r : R) : Type 0 where
    pub accepted : List (List ℕ)
    pub text : List ℕ
    pub about : IsAbout F most_bytes bytes (fault r) accepted text
    pub kept : IsFoundOf (fault r).kind text (found r)
    pub why : Why accepted text r

  module _ {D A : Type 0} (left : D → Option (List ℕ)) (Gives : List ℕ → A → Type 0) where
    -- The promise of a call that reads a device like `ReadsAll`, and explains why it refuses the
    -- bytes, unless a read failed, the bytes are too long, or memory ran out.
    pub record ReadsOrExplains (old new : Device D) (result : Result A R) : Type 0 where
      pub plain : ReadsAll left F Gives old new (by_fault fault result)
      pub explained : IfErr result (λ r. ConcernsText (fault r).kind → (bytes : List ℕ)
          × WasRead left old new bytes
          × Refuses F bytes (IsAtEnd (left new.device)) (fault r)
          × ExplainsRefusal bytes r)

module _ {M : Type 0} (B : Behavior M) where
  -- the state of a machine after a fault that is about these lines and this text
  pub data StandsBehind (accepted : List (List ℕ)) (text : List ℕ) (k : Kind) (now : M)
      : Type 0 where
    behind_line : (machine : M) → B.led_by accepted machine → (B.ended machine → ⊥)
        → B.rejects machine text k → B.stopped machine text k now → StandsBehind accepted text k now
    behind_text : B.led_by accepted now → B.ended now → k ≡ kinds.Trailing
        → StandsBehind accepted text k now
    at_end : B.led_by accepted now → (B.ended now → ⊥) → k ≡ kinds.End
        → StandsBehind accepted text k now

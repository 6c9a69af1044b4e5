-- Laws of a format.
use Rattle.std.specs.Prelude.{◌≡◌, ◌≢◌, ℕ, ◌≤◌, List, [], ◌++◌, length, Result, ◌↔◌}
use Rattle.sas_lines.specs.Lines.{text}
use Rattle.sas_lines.specs.FirstLines.{EndedLines}
use Rattle.sas_reader.specs.declared.fault.Fault.{Fault}
use Rattle.sas_reader.specs.declared.fault.Kind.TheVariants.{TooLong}
use Rattle.sas_reader.specs.Texts.{lines_of, Reads}
use Rattle.sas_reader.specs.Format.{Format, Live, MayFollow, FaultOf, ReadsAs}

module _ {V I S : Type 0} (F : Format V I S) where
  -- no byte list is a text of two values
  abbrev pub OneValue : Type 0
  OneValue = (bytes : List ℕ) (v w : V) → Reads F.texts bytes v → Reads F.texts bytes w → v ≡ w

  -- the texts of a good value are its lines, each ended by LF or by CR LF
  abbrev pub TextsAreEndedLines : Type 0
  TextsAreEndedLines = (bytes : List ℕ) (v : V) → F.texts.Good v
      → Reads F.texts bytes v ↔ EndedLines (lines_of F.texts v) [] bytes

  -- so its lines, each ended by LF, are a text of it
  abbrev pub TextIsRead : Type 0
  TextIsRead = (v : V) → F.texts.Good v → Reads F.texts (text (lines_of F.texts v)) v

  -- after the same lines every value has a line of the same slot, or every value ends there
  abbrev pub OneSlot : Type 0
  OneSlot = (begun : List (List ℕ)) (s t : S) → MayFollow F begun s → MayFollow F begun t → s ≡ t

  abbrev pub NoSlotAtEnd : Type 0
  NoSlotAtEnd = (begun : List (List ℕ)) (s : S) (v : V) → MayFollow F begun s → F.texts.Good v
      → lines_of F.texts v ≡ begun → ⊥

  -- a text within the limit is live
  abbrev pub TextIsLive : Type 0
  TextIsLive = (limit : ℕ) (bytes : List ℕ) (v : V) → length bytes ≤ limit → Reads F.texts bytes v
      → Live F limit bytes

  -- bytes with a fault aren't live
  abbrev pub FaultIsDead : Type 0
  FaultIsDead = (limit : ℕ) (bytes : List ℕ) (f : Fault) → FaultOf F limit bytes f
      → Live F limit bytes → ⊥

  -- bytes without a fault are live (stated with a double negation)
  abbrev pub FaultlessIsLive : Type 0
  FaultlessIsLive = (limit : ℕ) (bytes : List ℕ) → ((f : Fault) → FaultOf F limit bytes f → ⊥)
      → (Live F limit bytes → ⊥) → ⊥

  -- bytes have at most one fault, and more bytes don't change it
  abbrev pub OneFault : Type 0
  OneFault = (limit : ℕ) (bytes : List ℕ) (f g : Fault) → FaultOf F limit bytes f
      → FaultOf F limit bytes g → f ≡ g

  abbrev pub FaultStays : Type 0
  FaultStays = (limit : ℕ) (bytes more : List ℕ) (f : Fault) → FaultOf F limit bytes f
      → FaultOf F limit (bytes ++ more) f

  -- no text begins with bytes that have a fault other than `TooLong`
  abbrev pub FaultIsNoText : Type 0
  FaultIsNoText = (limit : ℕ) (bytes more : List ℕ) (f : Fault) (v : V)
      → FaultOf F limit bytes f → f.kind ≢ TooLong → Reads F.texts (bytes ++ more) v → ⊥

  -- bytes have exactly one result (its existence is stated with a double negation)
  abbrev pub OneReading : Type 0
  OneReading = (limit : ℕ) (bytes : List ℕ) (r q : Result V Fault)
      → ReadsAs F limit bytes r → ReadsAs F limit bytes q → r ≡ q

  abbrev pub SomeReading : Type 0
  SomeReading = (limit : ℕ) (bytes : List ℕ)
      → ((r : Result V Fault) → ReadsAs F limit bytes r → ⊥) → ⊥

  -- The laws of a format with a grammar.
  pub record Laws : Type 0 where
    pub one_value : OneValue
    pub texts_are_ended_lines : TextsAreEndedLines
    pub text_is_read : TextIsRead
    pub one_slot : OneSlot
    pub no_slot_at_end : NoSlotAtEnd
    pub text_is_live : TextIsLive
    pub fault_is_dead : FaultIsDead
    pub faultless_is_live : FaultlessIsLive
    pub one_fault : OneFault
    pub fault_stays : FaultStays
    pub fault_is_no_text : FaultIsNoText
    pub one_reading : OneReading
    pub some_reading : SomeReading

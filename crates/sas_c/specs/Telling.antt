-- What a call of the library returns: a number, and an answer in the caller's memory.
use Rattle.std.specs.Prelude.{◌≡◌, ◌⊎◌, ◌↔◌, ℕ, ◌<◌, ◌≤◌, Bool, true, false, List, length, take, drop, Option, Some, None}
use Rattle.sas_core.specs.declared.parts.Parts.{Parts}
use Rattle.sas_run.specs.ByNumbers.{IsValidFrom}
use Rattle.sas_run.specs.Starts.{IsStart, start_of}
use Rattle.sas_answers.specs.declared.ending.Status.{Status}
use Rattle.sas_answers.specs.declared.ending.Status.TheVariants.{Yes, No}
use Rattle.sas_answers.specs.declared.ending.ToolFault.{ToolFault}
use Rattle.sas_answers.specs.declared.ending.ToolFault.TheVariants.{TooLong}
use Rattle.sas_answers.specs.Ending.{Output}
use Rattle.sas_answers.specs.ValidLine.{valid_line}
use Rattle.sas_requests.specs.Headline.{Headline}
use Rattle.sas_requests.specs.Invariants.{Invariants}
use Rattle.sas_requests.specs.OutBy.{SaysLine}

-- the number of an answer that is written
abbrev pub number_of_status : Status → ℕ
number_of_status Yes = 0
number_of_status No = 1

-- the number of a run that ended without an answer; of bytes in memory no read or write fails
abbrev pub number_of_fault : ToolFault → ℕ
number_of_fault TooLong = 4
number_of_fault _ = 3

-- What a call returns: its number, `size`, and the caller's memory for the answer, which held
-- `before` and now holds `room`. `Out` holds of the right output, or of none if there is none.
pub record Returns (Out : Option Output → Type 0) (before room : List ℕ) (size number : ℕ)
    : Type 0 where
  -- 0 and 1: the output's text is at the front of the room, and the number is its status
  pub answer : (status : Status) → number ≡ number_of_status status → (output : Output)
      × Out (Some output)
      × (output.status ≡ status)
      × (size ≡ length output.text)
      × (take size room ≡ output.text)
  -- 2: it is longer than the room, and `size` is its length
  pub longer : number ≡ 2 → (output : Output)
      × Out (Some output)
      × (size ≡ length output.text)
      × (length room < size)
  -- 4: there is none, as an input is too long; 3, refused memory, says nothing of the output
  pub none : number ≡ 4 → Out None
  pub known : number < 5
  -- the room after a text is as it was; from 2 on all of it is; its length never changes
  pub behind : number < 2 → drop size room ≡ drop size before
  pub same : 2 ≤ number → room ≡ before
  pub as_long : length room ≡ length before

-- If an answer about the bytes b of the task and c of the plan is written, `plan valid` is in
-- the room, after a trace as the last line, exactly if the plan solves the task at that cost, and
-- exactly then the answer is yes.
abbrev pub ReturnsHeadline : (trace : Bool) → (b c room : List ℕ) → (size number : ℕ) → Type 0
ReturnsHeadline trace b c room size number = (status : Status) → number ≡ number_of_status status
    → Headline b c (SaysLine trace (take size room)) status

-- the start that is given is a state of the task p, or none is given; and from there the operators
-- with these numbers are valid at this cost
pub record IsValidRun (p : Parts) (start operators : List ℕ) (cost : ℕ) : Type 0 where
  pub starts : IsStart p start
  pub valid : IsValidFrom p (start_of p start) operators cost

-- `Valid` says when the operators with these numbers are valid at this cost: they are, and the line
-- says so
pub record SolvesByNumbers (Valid : Type 0) (operators : List ℕ) (cost : ℕ) (line : List ℕ)
    : Type 0 where
  pub valid : Valid
  pub printed : line ≡ valid_line (length operators) cost

-- If an answer about operators is written, `plan valid` is in the room exactly if they are valid at
-- that cost, and exactly then the answer is yes.
pub record HeadlineByNumbers (Valid : Type 0) (operators : List ℕ) (cost : ℕ) (text : List ℕ)
    (status : Status) : Type 0 where
  pub line : (steps sum : ℕ) → (text ≡ valid_line steps sum)
      ↔ SolvesByNumbers Valid operators cost (valid_line steps sum)
  pub yes : (status ≡ Yes) ↔ Valid

abbrev pub ReturnsByNumbers : Type 0 → List ℕ → ℕ → List ℕ → ℕ → ℕ → Type 0
ReturnsByNumbers Valid operators cost room size number = (status : Status)
    → number ≡ number_of_status status
    → HeadlineByNumbers Valid operators cost (take size room) status

-- What a call returns that asks for a state: its number, `size`, and the caller's memory for
-- values, which held `before` and now holds `room`. `Found` holds of the state that is found, and
-- of whether all steps go through, or of none if the start isn't a state.
pub record ReturnsState (Found : Option (List ℕ × Bool) → Type 0) (before room : List ℕ)
    (size number : ℕ) : Type 0 where
  -- 0: all go through, and the values are at the front of the room
  pub all : number ≡ 0 → (s : List ℕ) × Found (Some (s, true)) × (size ≡ length s)
      × (take size room ≡ s)
  -- 1: one doesn't, and the values before it are there; or the start isn't a state, and none are
  pub stuck : number ≡ 1
      → ((s : List ℕ) × Found (Some (s, false)) × (size ≡ length s) × (take size room ≡ s))
      ⊎ (Found None × (size ≡ 0))
  -- 2: there are more values than the room has, and `size` is their number
  pub longer : number ≡ 2 → (s : List ℕ) × (whole : Bool) × Found (Some (s, whole))
      × (size ≡ length s)
      × (length room < size)
  -- 3 is refused memory
  pub known : number < 4
  pub behind : number < 2 → drop size room ≡ drop size before
  pub same : 2 ≤ number → room ≡ before
  pub as_long : length room ≡ length before

-- If an answer is written about the mutex groups of the task b, `group K exclusive` is a line of it
-- only if group K is an invariant of the task.
abbrev pub ReturnsInvariants : List ℕ → List ℕ → ℕ → ℕ → Type 0
ReturnsInvariants b room size number = (status : Status) → number ≡ number_of_status status
    → Invariants b (λ out. take size room ≡ out)

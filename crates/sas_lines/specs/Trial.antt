-- The values of the failing devices in contracts.
use Rattle.std.specs.Prelude.{◌≡◌, ◌≤◌, ◌-◌, ℕ, Bool, true, false, List, length, min}
use Rattle.std.specs.declared.io.ErrorKind.{ErrorKind}
use Rattle.std.specs.declared.io.ErrorKind.TheVariants.{Interrupted, Other}

-- the bytes that a reader returns before it fails, and whether it fails with `Interrupted`
pub record Breaking : Type 0 where
  pub bytes : List ℕ
  pub interrupted : Bool

-- the kind of error with which it fails
abbrev pub break_kind : Bool → ErrorKind
break_kind true = Interrupted
break_kind false = Other

-- the bytes that a writer has taken, how many it takes per write and in total, and whether it then
-- fails
pub record Narrowed : Type 0 where
  pub kept : List ℕ
  pub piece : ℕ
  pub room : ℕ
  pub fails : Bool

-- the next write fails since the writer is full
pub record IsSpent (n : Narrowed) : Type 0 where
  pub full : n.room ≤ length n.kept
  pub fails : n.fails ≡ true

-- how many of the next `count` bytes it takes
abbrev pub count_taken : Narrowed → ℕ → ℕ
count_taken n count = min (min count n.piece) (n.room - length n.kept)

-- The promises of a machine, which judges the lines of a text.
use Rattle.std.specs.Prelude.{◌≡◌, ℕ, ◌<◌, List, ◌++◌, length, Result, IfOk, IfErr}
use Rattle.sas_lines.specs.FirstLines.{LinesStandFirst}
use Rattle.sas_reader.specs.declared.fault.Kind.{Kind}
use Rattle.sas_reader.specs.declared.fault.Kind.TheVariants as kinds
use Rattle.sas_reader.specs.declared.reader.Front.{Front}

-- How a machine M behaves that judges the lines of a text.
pub record Behavior (M : Type 0) : Type 1 where
  -- the lines that the machine has accepted so far
  pub led_by : List (List ℕ) → M → Type 0
  -- no line may follow
  pub ended : M → Type 0
  -- the line may not follow, and has this kind of fault
  pub rejects : M → List ℕ → Kind → Type 0
  -- the state of the machine after it refused the line with this kind of fault
  pub stopped : M → List ℕ → Kind → M → Type 0

-- the bytes begin with these lines, and the front has their number and their length
pub record IsFront (first : List (List ℕ)) (bytes : List ℕ) (front : Front) : Type 0 where
  pub stand : LinesStandFirst bytes first front.bytes
  pub many : length first ≡ front.lines

-- `led_by` relates the accepted lines to the machine.
module _ {M : Type 0} (led_by : List (List ℕ) → M → Type 0) where
  -- The promise of `accept_ahead`: the machine accepted first lines of the bytes, or nothing. The
  -- only error is `Memory`.
  pub record AcceptsAhead (old : M) (bytes : List ℕ) (new : M)
      (result : Result Front Kind) : Type 0 where
    pub took : IfOk result
        (λ front. 0 < front.bytes → (first : List (List ℕ)) × IsFront first bytes front
        × ((before : List (List ℕ)) → led_by before old → led_by (before ++ first) new))
    pub none : IfOk result (λ front. front.bytes ≡ 0 → new ≡ old)
    pub memory : IfErr result (λ k. k ≡ kinds.Memory)

-- A text on its way to a device.
use Rattle.std.specs.Prelude.{◌≡◌, ℕ, Bool, true, false, List, [], ◌++◌, Option}
use Rattle.sas_answers.specs.declared.sink.Sink.{Sink}
use Rattle.sas_answers.specs.Pieces.{Piece, Puts, Breaks}

-- nothing is held, and nothing was written
abbrev pub empty_piece : Piece
empty_piece = record { held = []; written = 0 }

-- By whether a write has failed: the first bytes of the text were written, and the rest is held; or
-- the first `short` bytes were written, and not all.
abbrev pub PushedBy : Option (List ℕ) → Option (List ℕ) → Piece → ℕ → List ℕ → Bool → Type 0
PushedBy start now piece short text false = Puts start now empty_piece piece text
PushedBy start now piece short text true =
    Breaks start now empty_piece text (record { written = short })

module _ {W : Type 0} (contents : W → Option (List ℕ)) where
  -- the text was added since the device had this start
  abbrev pub Pushed : Option (List ℕ) → Sink W → List ℕ → Type 0
  Pushed start sink text = PushedBy start (contents sink.out.now.device)
      sink.pieces.now sink.short text sink.out.now.failed

  -- these bytes were added to the text
  pub record Pushes (old new : Sink W) (bytes : List ℕ) : Type 0 where
    pub same : new.out.ghost_name ≡ old.out.ghost_name
    pub pieces : new.pieces.ghost_name ≡ old.pieces.ghost_name
    pub status : new.status ≡ old.status
    pub text : (start : Option (List ℕ)) (text : List ℕ) → Pushed start old text
        → Pushed start new (text ++ bytes)

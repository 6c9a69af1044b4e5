-- How a text is written in pieces.
use Rattle.std.specs.Prelude.{◌≡◌, ◌↔◌, ℕ, ◌+◌, ◌^◌, ◌<◌, List, ◌++◌, length, Option, Result, MatchResult, IsErr, IsTrue, ⊤}
use Rattle.std.specs.Io.KnownBytes.{Appends}
use Rattle.sas_lines.specs.Device.{Device}
use Rattle.sas_lines.specs.declared.devices.Short.{Short}

-- the bytes that are held, and how many were written before them
pub record Piece : Type 0 where
  pub held : List ℕ
  pub written : ℕ

-- a count grows by the number of these bytes, as long as a `usize` can hold the sum
abbrev pub CountsOn : ℕ → List ℕ → ℕ → Type 0
CountsOn before gone after = before + length gone < 2 ^ 64 → after ≡ before + length gone

-- The bytes were added after those that were held. The first of all these were written, and the
-- rest are held now.
pub record Puts (old new : Option (List ℕ)) (before after : Piece) (bytes : List ℕ) : Type 0 where
  pub gone : List ℕ
  pub sent : Appends old new gone
  pub whole : before.held ++ bytes ≡ gone ++ after.held
  pub counted : CountsOn before.written gone after.written

-- A write failed: of the bytes that were held, and these after them, the first were written, and
-- not all.
pub record Breaks (old new : Option (List ℕ)) (before : Piece) (bytes : List ℕ) (short : Short)
    : Type 0 where
  pub gone : List ℕ
  pub rest : List ℕ
  pub sent : Appends old new gone
  pub whole : before.held ++ bytes ≡ gone ++ rest
  pub some : 0 < length rest
  pub counted : CountsOn before.written gone short.written

-- What a call promises that adds these bytes, after those that are held, to a text on its way to a
-- device. `contents` maps a device to the bytes that were written to it, where these are known.
module _ {W : Type 0} (contents : W → Option (List ℕ)) where
  pub record Adds (old new : Device W) (before after : Piece) (bytes : List ℕ)
      (result : Result ⊤ Short) : Type 0 where
    pub puts : MatchResult result
        (λ _. Puts (contents old.device) (contents new.device) before after bytes)
        (λ short. Breaks (contents old.device) (contents new.device) before bytes short)
    pub note : IsErr result ↔ IsTrue new.failed

-- How the CRs of a text are removed in place.
use Rattle.std.specs.Prelude.{◌≡◌, ℕ, ◌≤◌, List, ◌++◌, length, take, drop}
use Rattle.sas_lines.specs.declared.packing.Places.{Places}
use Rattle.sas_lines.specs.Lines.{without_returns}

-- the places are in order
pub record InText (text : List ℕ) (at : Places) : Type 0 where
  pub order : at.kept ≤ at.read
  pub within : at.read ≤ length text

-- the bytes that are kept, and those that are left, without their CRs
abbrev pub packed : List ℕ → Places → List ℕ
packed text at = take at.kept text ++ without_returns (drop at.read text)

-- the text was packed from some places to others
pub record Packs (old : List ℕ) (start : Places) (new : List ℕ) (end : Places) : Type 0 where
  pub same : packed new end ≡ packed old start
  pub long : length new ≡ length old
  pub places : InText new end

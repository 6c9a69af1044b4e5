-- Which byte lists are texts of a value.
use Rattle.std.specs.Prelude.{◌≡◌, ℕ, List, [], map}
use Rattle.sas_lines.specs.Lines.{lines, unfinished}

-- How values V are written. Their lines are items I.
pub record Texts (V I : Type 0) : Type 1 where
  -- which values a file may contain
  pub Good : V → Type 0
  -- the lines of a value, in order
  pub layout : V → List I
  -- the bytes of a line, without its line end
  pub spelled : I → List ℕ

module _ {V I : Type 0} (T : Texts V I) where
  -- the bytes of the lines of a value
  abbrev pub lines_of : V → List (List ℕ)
  lines_of v = map T.spelled (T.layout v)

  -- The bytes are a text of the value: their complete lines are its lines, and nothing follows. So
  -- the last line has a line end as well.
  pub record Reads (bytes : List ℕ) (v : V) : Type 0 where
    pub good : T.Good v
    pub lines : lines bytes ≡ lines_of v
    pub rest : unfinished bytes ≡ []

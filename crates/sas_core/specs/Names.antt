-- Names of variables, values and operators, and therefore of the steps of a plan.
use Rattle.std.specs.Prelude.{ℕ, Bool, ◌&&◌, not, List, length, ◌==◌, IsTrue}
use Rattle.std.specs.List.{list_all}

-- the byte is neither LF nor CR
abbrev pub is_plain : ℕ → Bool
is_plain byte = not (byte == 10) && not (byte == 13)

-- a name has at least one byte and contains neither LF nor CR; any other byte is allowed, even a
-- space at the end
abbrev pub is_name : List ℕ → Bool
is_name bytes = not (length bytes == 0) && list_all is_plain bytes

abbrev pub IsName : List ℕ → Type 0
IsName bytes = IsTrue (is_name bytes)

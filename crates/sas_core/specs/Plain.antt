-- Bytes without line ends.
use Rattle.std.specs.Prelude.{ℕ, List, IsTrue}
use Rattle.std.specs.List.{list_all}
use Rattle.sas_core.specs.Names.{is_plain}

-- no byte is LF or CR
abbrev pub IsPlain : List ℕ → Type 0
IsPlain bytes = IsTrue (list_all is_plain bytes)

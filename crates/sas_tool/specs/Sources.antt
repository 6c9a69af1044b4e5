-- What an input is called.
use Rattle.std.specs.Prelude.{◌≡◌, ◌≢◌, ℕ, List, [], ◌∷◌, codes, Option, Some, None}
use Rattle.std.specs.String.{string_bytes}
use Rattle.sas_tool.specs.declared.arguments.Source.{Source}
use Rattle.sas_tool.specs.declared.arguments.Source.TheVariants.{Input, File}

-- the word that names an input
abbrev pub source_name : Source → List ℕ
source_name Input = codes "-"
source_name (File name) = string_bytes name

-- the word `-` names standard input, any other word a file, and no word nothing
abbrev pub IsSource : List (List ℕ) → Option Source → Type 0
IsSource words None = words ≡ []
IsSource words (Some Input) = words ≡ codes "-" ∷ []
IsSource words (Some (File name)) =
    (words ≡ string_bytes name ∷ []) × (string_bytes name ≢ codes "-")

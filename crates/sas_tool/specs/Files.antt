-- What opening an input of the program gives.
use Rattle.std.specs.Prelude.{◌≡◌, ⊤, ℕ, List, [], Option, Some, None, IsSomeAnd}
use Rattle.std.specs.Option.{option_map_or}
use Rattle.std.specs.String.{string_bytes}
use Rattle.sas_lines.specs.Inputs.{left_of}
use Rattle.sas_lines.specs.declared.inputs.OpenInput.{OpenInput}
use Rattle.sas_tool.specs.Held.{Held, absent, held_if_known, holds, unknown}
use Rattle.sas_tool.specs.declared.arguments.Source.{Source}
use Rattle.sas_tool.specs.declared.arguments.Source.TheVariants.{Input, File}
use Rattle.sas_tool.specs.declared.until_end.UntilEnd.{UntilEnd}

-- what is known of a source; where there is none, nothing is read
abbrev pub source_held : (List ℕ → Held) → Option (List ℕ) → Option Source → Held
source_held held input None = holds []
source_held held input (Some Input) = held_if_known input
source_held held input (Some (File name)) = held (string_bytes name)

-- the bytes, if they are known
abbrev pub bytes_if_known : Held → Option (List ℕ)
bytes_if_known (holds bytes) = Some bytes
bytes_if_known _ = None

-- what opening an input gives of which this is known; `left` maps it to the bytes that it has left
abbrev pub Opens : {F : Type 0} → (F → Option (List ℕ)) → Held → Option F → Type 0
Opens left unknown opened = ⊤
Opens left absent opened = opened ≡ None
Opens left (holds bytes) opened = IsSomeAnd opened (λ file. left file ≡ Some bytes)

-- the bytes that an input has left, and none once it is let go
abbrev pub left_until_end : {D : Type 0} → (D → Option (List ℕ)) → UntilEnd D → Option (List ℕ)
left_until_end left u = option_map_or left u.input (Some [])

-- the same of an input of the program
abbrev pub input_left : {F I : Type 0} → (F → Option (List ℕ)) → (I → Option (List ℕ))
    → UntilEnd (OpenInput F I) → Option (List ℕ)
input_left of_file of_standard = left_until_end (left_of of_file of_standard)

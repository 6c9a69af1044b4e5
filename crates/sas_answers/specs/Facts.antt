-- Facts as words.
use Rattle.std.specs.Prelude.{ℕ, List, [], ◌∷◌, map, codes, decimal}
use Rattle.std.specs.List.{enumerate_from}
use Rattle.std.specs.Option.{unwrap_or}
use Rattle.sas_core.specs.declared.parts.Variable.{Variable}
use Rattle.sas_core.specs.Variables.{value_name}
use Rattle.sas_answers.specs.Words.{line}

-- `WORD VAR VALUE NAME`, where NAME is the value's name; a value that doesn't exist has none
abbrev pub fact_line : List ℕ → List Variable → ℕ → ℕ → List ℕ
fact_line word variables var value = line 0
    (word ∷ decimal var ∷ decimal value ∷ unwrap_or (value_name variables var value) [] ∷ [])

-- `initial VAR VALUE NAME` for each variable, with its value in a state
abbrev pub initial_lines : List Variable → List ℕ → List (List ℕ)
initial_lines variables s =
    map (λ (var, value). fact_line (codes "initial") variables var value) (enumerate_from 0 s)

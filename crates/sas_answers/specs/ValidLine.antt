-- The line for a valid plan.
use Rattle.std.specs.Prelude.{ℕ, List, ◌++◌, codes, decimal}

-- `plan valid: S steps, cost C`, with the LF after it
abbrev pub valid_line : ℕ → ℕ → List ℕ
valid_line steps cost =
    codes "plan valid: " ++ decimal steps ++ codes " steps, cost " ++ decimal cost ++ codes "\n"

-- The cost of an operator.
use Rattle.std.specs.Prelude.{ℕ, if◌then◌else◌, slice_get}
use Rattle.std.specs.Option.{option_map_or}
use Rattle.sas_core.specs.declared.parts.Operator.{Operator}
use Rattle.sas_core.specs.declared.parts.Parts.{Parts}

-- the cost of an operator: the number on its cost line with metric 1, and 1 with metric 0
abbrev pub cost_of : Parts → ℕ → ℕ
cost_of p operator =
    if p.metric then option_map_or (λ (o : Operator). o.cost) (slice_get p.operators operator) 0
    else 1

-- Steps that name no operator.
use Rattle.std.specs.Prelude.{ℕ, Bool, not, List, bytes_eq}
use Rattle.std.specs.List.{list_any, count_by}
use Rattle.sas_core.specs.declared.parts.Operator.{Operator}
use Rattle.sas_core.specs.declared.parts.Parts.{Parts}

-- whether no operator has the name
abbrev pub is_nameless : Parts → List ℕ → Bool
is_nameless p name = not (list_any (λ (o : Operator). bytes_eq o.name name) p.operators)

-- how many of the steps name no operator
abbrev pub nameless_steps : Parts → List (List ℕ) → ℕ
nameless_steps p steps = count_by (is_nameless p) steps

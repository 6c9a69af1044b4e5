-- Variables in columns.
use Rattle.std.specs.Prelude.{◌≡◌, ℕ, List, [], length, slice_index_or, Option, None}
use Rattle.sas_core.specs.declared.parts.Variable.{Variable}
use Rattle.sas_flat.specs.declared.variables.VariableColumns.{VariableColumns}
use Rattle.sas_flat.specs.Lists.{lists_of}
use Rattle.sas_flat.specs.ByKey.{table}

abbrev pub variable : List ℕ → Option ℕ → List (List ℕ) → Variable
variable name layer values = record { name = name; layer = layer; values = values }

-- the variables with these names, layers and values; item i of each list belongs to variable i
abbrev pub variables_from : List (List ℕ) → List (Option ℕ) → List (List (List ℕ)) → List Variable
variables_from names layers values = table (length values) (λ index.
    variable (slice_index_or names index []) (slice_index_or layers index None)
    (slice_index_or values index []))

abbrev pub variables_in : VariableColumns → List Variable
variables_in c = variables_from c.names c.layers.items (lists_of c.values c.ends)

-- the columns have one item per variable, and `ends` are the ends of its value names
pub record VariableColumnsAlign (Ends : List ℕ → ℕ → Type 0) (c : VariableColumns) : Type 0 where
  pub names : length c.names ≡ length c.ends
  pub layers : length c.layers.items ≡ length c.ends
  pub values : Ends c.ends (length c.values)

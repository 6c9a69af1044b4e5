-- The family as a list: for each group, whether it is kept.
use Rattle.std.specs.Prelude.{ℕ, Bool, false, List, slice_index_or}
use Rattle.sas_core.specs.declared.parts.Fact.{Fact}
use Rattle.sas_core.specs.declared.parts.Parts.{Parts}
use Rattle.sas_groups.specs.Families.{IsGroupOf}

-- the family of the indexes at which the list is true
abbrev pub family_of : List Bool → ℕ → Bool
family_of kept place = slice_index_or kept place false

-- the groups of the family
abbrev pub IsKept : Parts → List Bool → List Fact → Type 0
IsKept p kept = IsGroupOf p (family_of kept)

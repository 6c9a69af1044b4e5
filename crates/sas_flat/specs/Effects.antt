-- Effects and rules in columns: the change and the conditions of each.
use Rattle.std.specs.Prelude.{ℕ, List, [], length, slice_index_or, None}
use Rattle.sas_core.specs.declared.grounded.Change.{Change}
use Rattle.sas_core.specs.declared.parts.Fact.{Fact}
use Rattle.sas_core.specs.declared.parts.Effect.{Effect}
use Rattle.sas_core.specs.Grounded.{no_effect}
use Rattle.sas_flat.specs.ByKey.{table}

-- the effect with this change and these conditions
abbrev pub effect_with : Change → List Fact → Effect
effect_with c conditions = record { conditions = conditions; var = c.var; old = c.old; new = c.new }

-- the change at this index; past the last change, one that sets variable 0 to value 0
abbrev pub change_in_list : List Change → ℕ → Change
change_in_list changes index = slice_index_or changes index
    (record { var = 0; old = None; new = 0 })

abbrev pub effects_of : List Change → List (List Fact) → List Effect
effects_of changes conditions =
    table (length changes)
    (λ index. effect_with (change_in_list changes index) (slice_index_or conditions index []))

-- the effect at this index
abbrev pub effect_in_list : List Effect → ℕ → Effect
effect_in_list effects index = slice_index_or effects index no_effect

-- The contents of a task, item by item. Each item is identified by its index, counted from 0.
use Rattle.std.specs.Prelude.{ℕ, List, [], slice_index_or, None}
use Rattle.sas_core.specs.declared.parts.Fact.{Fact}
use Rattle.sas_core.specs.declared.parts.Effect.{Effect}
use Rattle.sas_core.specs.declared.parts.Operator.{Operator}
use Rattle.sas_core.specs.declared.parts.Parts.{Parts}

-- the operator with this index; past the last operator, one without name and effects
abbrev pub operator_at : Parts → ℕ → Operator
operator_at p operator =
    slice_index_or p.operators operator (record { name = []; prevail = []; effects = []; cost = 0 })

-- what stands past the last effect, and past the last rule: one that sets variable 0 to value 0
abbrev pub no_effect : Effect
no_effect = record { conditions = []; var = 0; old = None; new = 0 }

-- the effect with this index
abbrev pub effect_at : Operator → ℕ → Effect
effect_at o effect = slice_index_or o.effects effect no_effect

-- the rule with this index
abbrev pub rule_at : Parts → ℕ → Effect
rule_at p rule = slice_index_or p.rules rule no_effect

-- the mutex group with this index; past the last group, the empty group
abbrev pub group_at : Parts → ℕ → List Fact
group_at p group = slice_index_or p.groups group []

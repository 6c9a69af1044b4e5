-- The changes that effects and rules make. A rule has the form of an effect: conditions, and a
-- change.
use Rattle.std.specs.Prelude.{List, [], map}
use Rattle.sas_core.specs.declared.grounded.Change.{Change}
use Rattle.sas_core.specs.declared.parts.Effect.{Effect}
use Rattle.sas_core.specs.declared.parts.Fact.{Fact}

-- the change that an effect or a rule makes
abbrev pub change_of : Effect → Change
change_of e = record { var = e.var; old = e.old; new = e.new }

-- the fact that becomes true
abbrev pub fact_of : Change → Fact
fact_of change = record { var = change.var; value = change.new }

-- the effect without conditions that makes this change
abbrev pub plain_effect : Change → Effect
plain_effect change =
    record { conditions = []; var = change.var; old = change.old; new = change.new }

-- the effects without conditions that make these changes
abbrev pub plain_effects : List Change → List Effect
plain_effects changes = map plain_effect changes

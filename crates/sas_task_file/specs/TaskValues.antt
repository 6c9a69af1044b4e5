-- The value of a line of a task file, and which numbers may be expected.
use Rattle.std.specs.Prelude.{ℕ, ◌+◌, Bool, ◌&&◌, List, [], nat_lt, Option, None}
use Rattle.sas_core.specs.declared.grounded.Change.{Change}
use Rattle.sas_core.specs.declared.parts.Fact.{Fact}
use Rattle.sas_core.specs.declared.parts.Effect.{Effect}
use Rattle.sas_core.specs.Grounded.{no_effect}
use Rattle.sas_task_file.specs.TaskFormat.{TaskLine, name, number, signed, fact, effect, head}

-- the name on a line
abbrev pub name_in : TaskLine → List ℕ
name_in (name bytes) = bytes
name_in _ = []

-- the number on a line
abbrev pub number_in : TaskLine → ℕ
number_in (number n) = n
number_in _ = 0

-- the number on a line, if any
abbrev pub signed_in : TaskLine → Option ℕ
signed_in (signed n) = n
signed_in _ = None

-- the fact on a line
abbrev pub fact_in : TaskLine → Fact
fact_in (fact f) = f
fact_in _ = record { var = 0; value = 0 }

-- the effect on a line
abbrev pub effect_in : TaskLine → Effect
effect_in (effect e) = e
effect_in _ = no_effect

-- the head on a line
abbrev pub head_in : TaskLine → Change
head_in (head var old new) = record { var = var; old = old; new = new }
head_in _ = record { var = 0; old = None; new = 0 }

-- from `least` to `most`
abbrev pub is_from : ℕ → ℕ → ℕ → Bool
is_from least most n = nat_lt least (n + 1) && nat_lt n (most + 1)

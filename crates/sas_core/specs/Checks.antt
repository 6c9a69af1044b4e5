-- The rules of a task file as checks in the order of the file, each with the fault that it reports.
use Rattle.std.specs.Prelude.{◌≡◌, ℕ, ◌↔◌, ◌==◌, Bool, not, nat_lt, List, [], ◌++◌, length, zip, Option, Some, None}
use Rattle.std.specs.List.{list_all}
use Rattle.sas_core.specs.declared.checks.PartsFault.{PartsFault}
use Rattle.sas_core.specs.declared.checks.PartsFault.TheVariants.{NoVariable, TooMany, BadName, BadNumber, BadRange, BadFact, InitLength}
use Rattle.sas_core.specs.declared.parts.Fact.{Fact}
use Rattle.sas_core.specs.declared.parts.Variable.{Variable}
use Rattle.sas_core.specs.declared.parts.Effect.{Effect}
use Rattle.sas_core.specs.declared.parts.Operator.{Operator}
use Rattle.sas_core.specs.declared.parts.Parts.{Parts}
use Rattle.sas_core.specs.FirstFault.{Check, first_fault, check, listed}
use Rattle.sas_core.specs.Names.{is_name}
use Rattle.sas_core.specs.Numbers.{is_number}
use Rattle.sas_core.specs.Variables.{has_value, fact_exists}
use Rattle.sas_core.specs.WellRanged.{WellRanged}

abbrev pub name_checks : List ℕ → List (Check PartsFault)
name_checks name = check (is_name name) BadName

-- an optional number; a file writes -1 for none
abbrev pub signed_checks : Option ℕ → List (Check PartsFault)
signed_checks None = []
signed_checks (Some n) = check (is_number n) BadNumber

abbrev pub variable_checks : Variable → List (Check PartsFault)
variable_checks v =
    name_checks v.name
    ++ signed_checks v.layer
    ++ check (not (length v.values == 0)) BadRange
    ++ listed TooMany name_checks v.values

abbrev pub fact_checks : List Variable → Fact → List (Check PartsFault)
fact_checks variables fact = check (fact_exists variables fact) BadFact

-- the old value of the variable, if given, and its new value
abbrev pub change_checks : List Variable → ℕ → Option ℕ → ℕ → List (Check PartsFault)
change_checks variables var None new = check (has_value variables var new) BadFact
change_checks variables var (Some old) new =
    check (has_value variables var old) BadFact ++ check (has_value variables var new) BadFact

-- an effect or a rule
abbrev pub effect_checks : List Variable → Effect → List (Check PartsFault)
effect_checks variables e =
    listed TooMany (fact_checks variables) e.conditions ++ change_checks variables e.var e.old e.new

abbrev pub operator_checks : List Variable → Operator → List (Check PartsFault)
operator_checks variables o =
    name_checks o.name
    ++ listed TooMany (fact_checks variables) o.prevail
    ++ listed TooMany (effect_checks variables) o.effects
    ++ check (is_number o.cost) BadNumber

-- whether each value is in the range of the variable with the same index
abbrev pub values_in_range : List Variable → List ℕ → Bool
values_in_range variables values =
    list_all (λ (p : Variable × ℕ). nat_lt p.1 (length p.0.values)) (zip variables values)

abbrev pub state_checks : List Variable → List ℕ → List (Check PartsFault)
state_checks variables values =
    check (length values == length variables) InitLength
    ++ check (values_in_range variables values) BadFact

-- all checks of a task, section by section
abbrev pub checks : Parts → List (Check PartsFault)
checks p =
    check (not (length p.variables == 0)) NoVariable
    ++ listed TooMany variable_checks p.variables
    ++ listed TooMany (listed TooMany (fact_checks p.variables)) p.groups
    ++ state_checks p.variables p.init
    ++ listed TooMany (fact_checks p.variables) p.goal
    ++ listed TooMany (operator_checks p.variables) p.operators
    ++ listed TooMany (effect_checks p.variables) p.rules

-- parts are well ranged if and only if all checks pass
abbrev pub ChecksAreTheRules : Type 0
ChecksAreTheRules = (p : Parts) → (first_fault (checks p) ≡ None) ↔ WellRanged p

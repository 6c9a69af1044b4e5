-- Which contents a task file may have.
use Rattle.std.specs.Prelude.{◌<◌, List, length}
use Rattle.std.specs.List.{AllByRecursion}
use Rattle.sas_core.specs.declared.parts.Variable.{Variable}
use Rattle.sas_core.specs.declared.parts.Effect.{Effect}
use Rattle.sas_core.specs.declared.parts.Operator.{Operator}
use Rattle.sas_core.specs.declared.parts.Parts.{Parts}
use Rattle.sas_core.specs.Names.{IsName}
use Rattle.sas_core.specs.Numbers.{IsNumber, IsSigned}
use Rattle.sas_core.specs.Variables.{HasValue, MayHaveValue, FactExists, IsState}

-- a list whose length is a number of the format, and each of whose items meets a condition
pub record Listed {A : Type 0} (Follows : A → Type 0) (items : List A) : Type 0 where
  pub count : IsNumber (length items)
  pub each : AllByRecursion Follows items

pub record VariableFits (v : Variable) : Type 0 where
  -- its name is a name
  pub name : IsName v.name
  -- its layer, if given, is a number
  pub layer : IsSigned v.layer
  -- it has at least one value
  pub some_value : 0 < length v.values
  -- the number of values is a number, and each value is a name
  pub values : Listed IsName v.values

-- an effect or a rule
pub record EffectFits (variables : List Variable) (e : Effect) : Type 0 where
  -- the number of conditions is a number, and each condition is a fact that exists
  pub conditions : Listed (FactExists variables) e.conditions
  -- its variable exists and has its new value
  pub new : HasValue variables e.var e.new
  -- its old value, if given, exists
  pub old : MayHaveValue variables e.var e.old

pub record OperatorFits (variables : List Variable) (o : Operator) : Type 0 where
  -- its name is a name
  pub name : IsName o.name
  -- the number of prevail conditions is a number, and each of them is a fact that exists
  pub prevail : Listed (FactExists variables) o.prevail
  -- the number of effects is a number, and each effect fits
  pub effects : Listed (EffectFits variables) o.effects
  -- its cost is a number
  pub cost : IsNumber o.cost

pub record WellRanged (p : Parts) : Type 0 where
  -- there is at least one variable
  pub some_variable : 0 < length p.variables
  -- the number of variables is a number, and each variable fits
  pub variables : Listed VariableFits p.variables
  -- the number of groups is a number, and so is the size of each group; all their facts exist
  pub groups : Listed (Listed (FactExists p.variables)) p.groups
  -- the state section has one value per variable, each in its range
  pub init : IsState p.variables p.init
  -- the number of goal facts is a number, and all of them exist
  pub goal : Listed (FactExists p.variables) p.goal
  -- the number of operators is a number, and each operator fits
  pub operators : Listed (OperatorFits p.variables) p.operators
  -- the number of rules is a number, and each rule fits
  pub rules : Listed (EffectFits p.variables) p.rules

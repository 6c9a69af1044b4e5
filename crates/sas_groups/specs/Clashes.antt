-- Which facts exclude each other, and which operators keep a group. Groups are lists of facts,
-- treated as sets. The predicate `Counts` selects the groups that are assumed to be exclusive: no
-- two different facts of such a group hold together before a step.
use Rattle.std.specs.Prelude.{◌≡◌, ◌≢◌, ◌⊎◌, List, [], ◌∷◌, ◌++◌, All, Contains}
use Rattle.sas_core.specs.declared.parts.Fact.{Fact}
use Rattle.sas_core.specs.declared.parts.Effect.{Effect}
use Rattle.sas_core.specs.declared.parts.Operator.{Operator}
use Rattle.sas_meaning.specs.Steps.{preconditions}

-- two different facts of an assumed group
pub record AreOfOneGroup (Counts : List Fact → Type 0) (f g : Fact) : Type 0 where
  pub differ : f ≢ g
  pub group : List Fact
  pub counts : Counts group
  pub first : Contains group f
  pub second : Contains group g

-- two facts contradict each other if they are two values of a variable, or two different facts of
-- an assumed group
abbrev pub Contradict : (List Fact → Type 0) → Fact → Fact → Type 0
Contradict Counts f g = ((f.var ≡ g.var) × (f.value ≢ g.value)) ⊎ AreOfOneGroup Counts f g

-- a list of facts clashes if two of its facts contradict each other
abbrev pub Clash : (List Fact → Type 0) → List Fact → Type 0
Clash Counts facts = (f g : Fact) × Contains facts f × Contains facts g × Contradict Counts f g

-- the fact that an effect makes true
abbrev pub sets : Effect → Fact
sets e = record { var = e.var; value = e.new }

-- (i) if two effects set facts of the group on different variables, they can't fire together: the
-- preconditions and their conditions clash
abbrev pub NeverSetsTwo : (List Fact → Type 0) → Operator → List Fact → Type 0
NeverSetsTwo Counts o group = (e f : Effect) → Contains o.effects e → Contains o.effects f
    → Contains group (sets e) → Contains group (sets f) → e.var ≢ f.var
    → Clash Counts (preconditions o ++ e.conditions ++ f.conditions)

-- the effect removes the fact: its conditions hold, and it sets the variable to another value
pub record Removes (Holds : Fact → Type 0) (effect : Effect) (fact : Fact) : Type 0 where
  pub fires : All Holds effect.conditions
  pub var : effect.var ≡ fact.var
  pub other : effect.new ≢ fact.value

-- an effect of the operator removes the fact where all of `facts` hold
pub record IsRemoved (o : Operator) (facts : List Fact) (fact : Fact) : Type 0 where
  pub effect : Effect
  pub among : Contains o.effects effect
  pub removes : Removes (Contains facts) effect fact

-- (ii) if an effect sets a fact of the group, then each fact of the group on another variable can't
-- have held before (the preconditions, the conditions and this fact clash), or it is removed
abbrev pub RemovesOthers : (List Fact → Type 0) → Operator → List Fact → Type 0
RemovesOthers Counts o group = (e : Effect) (f : Fact) → Contains o.effects e
    → Contains group (sets e) → Contains group f → e.var ≢ f.var
    → Clash Counts (preconditions o ++ e.conditions ++ f ∷ [])
    ⊎ IsRemoved o (preconditions o ++ e.conditions ++ f ∷ []) f

-- the operator keeps the group
pub record Keeps (Counts : List Fact → Type 0) (o : Operator) (group : List Fact) : Type 0 where
  pub two : NeverSetsTwo Counts o group
  pub others : RemovesOthers Counts o group

-- What a task read so far contains where only its variables, groups, operators or rules changed.
use Rattle.sas_task_reader.proofs.Imports.{◌≡◌, ℕ, List, Option, Variable, [], ◌∷◌, ◌++◌, length, ap, table_none, SoFar, effects_of}
use Rattle.sas_core.specs.declared.grounded.Change.{Change}
use Rattle.sas_core.specs.declared.parts.Effect.{Effect}
use Rattle.sas_core.specs.declared.parts.Fact.{Fact}
use Rattle.sas_core.specs.declared.parts.Operator.{Operator}
use Rattle.sas_task_file.specs.TaskEvents.{behind_variable, behind_group, behind_operator, behind_rule}

abbrev pub with_variables : SoFar → List Variable → SoFar
with_variables s vs = record s { parts = record s.parts { variables = vs } }

pub one_variable_more : (s : SoFar) (v : Variable) (name : List ℕ) (layer : Option ℕ) (values : List (List ℕ)) (vs : List Variable) → name ≡ [] → layer ≡ v.layer → values ≡ [] → vs ≡ s.parts.variables ++ v ∷ []
    → record (with_variables s vs) { name = name; layer = layer; values = values } ≡ behind_variable s v
one_variable_more s v name layer values vs no_name same_layer no_values is = cc

abbrev pub with_groups : SoFar → List (List Fact) → SoFar
with_groups s gs = record s { parts = record s.parts { groups = gs } }

pub one_group_more : (s : SoFar) (facts : List Fact) (begun : List Fact) (gs : List (List Fact)) → begun ≡ [] → gs ≡ s.parts.groups ++ facts ∷ []
    → record (with_groups s gs) { facts = begun } ≡ behind_group s facts
one_group_more s facts begun gs none is = cc

abbrev pub with_operators : SoFar → List Operator → SoFar
with_operators s os = record s { parts = record s.parts { operators = os } }

pub one_operator_more : (s : SoFar) (o : Operator) (name : List ℕ) (facts : List Fact) (effects : List Effect) (os : List Operator) → name ≡ [] → facts ≡ [] → effects ≡ [] → os ≡ s.parts.operators ++ o ∷ []
    → record (with_operators s os) { name = name; facts = facts; effects = effects } ≡ behind_operator s o
one_operator_more s o name facts effects os no_name no_facts no_effects is = cc

abbrev pub with_rules : SoFar → List Effect → SoFar
with_rules s rs = record s { parts = record s.parts { rules = rs } }

pub another_rule : (s : SoFar) (r : Effect) (begun : List Fact) (rs : List Effect) → begun ≡ [] → rs ≡ s.parts.rules ++ r ∷ []
    → record (with_rules s rs) { facts = begun } ≡ behind_rule s r
another_rule s r begun rs none is = cc

pub no_rules : (changes : List Change) (lists : List (List Fact)) → changes ≡ [] → effects_of changes lists ≡ []
no_rules changes lists none = table_none (length changes) _ (ap length none)

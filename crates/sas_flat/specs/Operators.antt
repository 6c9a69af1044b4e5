-- Operators in columns: the names, prevail conditions and effects of all operators, one after
-- another, and the head of each operator.
use Rattle.std.specs.Prelude.{ℕ, List, [], length, map, slice_index, slice_index_or}
use Rattle.sas_core.specs.declared.parts.Fact.{Fact}
use Rattle.sas_core.specs.declared.parts.Effect.{Effect}
use Rattle.sas_core.specs.declared.parts.Operator.{Operator}
use Rattle.sas_flat.specs.declared.operators.Head.{Head}
use Rattle.sas_flat.specs.declared.operators.OperatorColumns.{OperatorColumns}
use Rattle.sas_flat.specs.Lists.{list_at, items_after, AreEnds}
use Rattle.sas_flat.specs.ByKey.{table}

abbrev pub operator : List ℕ → List Fact → List Effect → ℕ → Operator
operator name prevail effects cost =
    record { name = name; prevail = prevail; effects = effects; cost = cost }

-- the ends of the names, prevail conditions and effects, and the costs
abbrev pub name_ends : List Head → List ℕ
name_ends heads = map (λ (h : Head). h.name) heads

abbrev pub prevail_ends : List Head → List ℕ
prevail_ends heads = map (λ (h : Head). h.prevail) heads

abbrev pub effect_ends : List Head → List ℕ
effect_ends heads = map (λ (h : Head). h.effects) heads

abbrev pub costs : List Head → List ℕ
costs heads = map (λ (h : Head). h.cost) heads

-- the operators, one for each head
abbrev pub operators_in : OperatorColumns → List Operator
operators_in c = table (length c.heads.items) (λ index. operator
    (list_at c.names.items (name_ends c.heads.items) index)
    (list_at c.prevail.items (prevail_ends c.heads.items) index)
    (list_at c.effects (effect_ends c.heads.items) index)
    (slice_index (costs c.heads.items) index))

-- the heads have the ends of all columns; the last columns may be open
pub record OperatorColumnsAlign (Ends : List ℕ → ℕ → Type 0) (c : OperatorColumns) : Type 0 where
  pub names : AreEnds (name_ends c.heads.items) (length c.names.items)
  pub prevail : Ends (prevail_ends c.heads.items) (length c.prevail.items)
  pub effects : Ends (effect_ends c.heads.items) (length c.effects)

-- the head of an operator with this cost that ends at the current ends of all columns
abbrev pub end_head : OperatorColumns → ℕ → Head
end_head c cost = record {
  name = length c.names.items;
  prevail = length c.prevail.items;
  effects = length c.effects;
  cost = cost;
}

-- the operator with the prevail conditions and effects after those of the last operator
abbrev pub open_operator : OperatorColumns → List ℕ → ℕ → Operator
open_operator c name cost =
    operator name (items_after c.prevail.items (prevail_ends c.heads.items))
    (items_after c.effects (effect_ends c.heads.items)) cost

-- the operator at this index; past the last operator, one without name and effects
abbrev pub operator_in : List Operator → ℕ → Operator
operator_in operators index =
    slice_index_or operators index (record { name = []; prevail = []; effects = []; cost = 0 })

-- The rules that an update still has to evaluate.
use Rattle.std.specs.Prelude.{◌≡◌, ◌⊎◌, ℕ, ◌+◌, ◌*◌, ◌<◌, ◌≤◌, List, [], ◌∷◌, ◌++◌, length, All, Contains}
use Rattle.std.specs.declared.cmp.Ordering.{Ordering}
use Rattle.std.specs.declared.cmp.Reverse.{Reverse}
use Rattle.std.specs.Ordering.{nat_cmp, ordering_then}
use Rattle.std.specs.List.Sorted.{IsPermutation}
use Rattle.std.specs.BinaryHeap.{heap_items, IsHeap}
use Rattle.sas_axioms.specs.declared.agenda.Agenda.{Agenda}
use Rattle.sas_axioms.specs.declared.layer_rules.LayerRule.{LayerRule}

-- rules of lower layers come first
abbrev pub layer_cmp : LayerRule → LayerRule → Ordering
layer_cmp a b = ordering_then (nat_cmp a.layer b.layer) (nat_cmp a.rule b.rule)

-- the entry for a rule of a layer
abbrev pub entry_for : ℕ → ℕ → Reverse LayerRule
entry_for layer rule = record { 0 = record { layer = layer; rule = rule } }

-- the rule is noted, with this layer
abbrev pub IsOnAgenda : Agenda → ℕ → ℕ → Type 0
IsOnAgenda a layer rule = Contains (heap_items a.noted) (entry_for layer rule)

-- the rule is noted, with this layer, or is ready
abbrev pub IsAwaited : Agenda → ℕ → ℕ → Type 0
IsAwaited a layer rule = IsOnAgenda a layer rule ⊎ Contains a.ready.items rule

-- the noted rules are a heap, with a rule of the lowest layer on top
abbrev pub IsOrdered : Agenda → Type 0
IsOrdered a = IsHeap (λ x y. layer_cmp y.0 x.0) (heap_items a.noted)

-- no rule of a lower layer is noted
abbrev pub NoLowerLayer : ℕ → Agenda → Type 0
NoLowerLayer layer a = All (λ (e : Reverse LayerRule). layer ≤ e.0.layer) (heap_items a.noted)

-- no rule of this layer or of a lower layer is noted
abbrev pub AreBehind : ℕ → Agenda → Type 0
AreBehind layer a = All (λ (e : Reverse LayerRule). layer < e.0.layer) (heap_items a.noted)

-- an upper bound of the work that is left: to process a list entry may note a rule, and each noted
-- rule may be made ready
abbrev pub work_left : Agenda → ℕ
work_left a = 3 * a.left + 2 * length (heap_items a.noted) + length a.ready.items

-- no rule is noted or ready
pub record IsEmpty (a : Agenda) : Type 0 where
  pub ordered : IsOrdered a
  pub noted : heap_items a.noted ≡ []
  pub ready : a.ready.items ≡ []

-- this is the lowest layer with a noted rule
pub record Lowest (a : Agenda) (layer : ℕ) : Type 0 where
  pub noted : (rule : ℕ) × IsOnAgenda a layer rule
  pub from : NoLowerLayer layer a

-- adds this rule to the noted rules
pub record AddsToAgenda (layer rule : ℕ) (a a' : Agenda) : Type 0 where
  pub noted : IsPermutation (entry_for layer rule ∷ heap_items a.noted) (heap_items a'.noted)
  pub ordered : IsOrdered a'
  pub ready : a'.ready ≡ a.ready
  pub left : a'.left ≤ a.left

-- removes this rule, which was noted or ready; all other rules are kept
pub record RemovesFromAgenda (layer rule : ℕ) (a a' : Agenda) : Type 0 where
  pub was : IsAwaited a layer rule
  pub noted : (m other : ℕ) → IsOnAgenda a m other → IsOnAgenda a' m other ⊎ (other ≡ rule)
  pub ready : (other : ℕ) → Contains a.ready.items other
      → Contains a'.ready.items other ⊎ (other ≡ rule)
  pub still_noted : All (Contains (heap_items a.noted)) (heap_items a'.noted)
  pub still_ready : All (Contains a.ready.items) a'.ready.items
  pub ordered : IsOrdered a'
  pub left : work_left a' < work_left a

-- adds this rule to the ready rules
pub record IsMadeReady (rule : ℕ) (a a' : Agenda) : Type 0 where
  pub ready : a'.ready.items ≡ a.ready.items ++ rule ∷ []
  pub noted : a'.noted ≡ a.noted
  pub left : a'.left ≡ a.left

-- adds these rules to the ready rules
pub record AreMadeReady (rules : List ℕ) (a a' : Agenda) : Type 0 where
  pub ready : a'.ready.items ≡ a.ready.items ++ rules
  pub noted : a'.noted ≡ a.noted
  pub left : work_left a' ≤ work_left a

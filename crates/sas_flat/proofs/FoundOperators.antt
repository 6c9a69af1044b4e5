-- The operator at an index of the columns.
use Rattle.sas_flat.proofs.Imports.{◌≡◌, ℕ, zero, suc, ◌+◌, ◌-◌, ◌<◌, ◌≤◌, List, length, map, get_or, sym, ap, ◌∙◌, arith, slice_index, length-map, get_or-map, Operator, Head, OperatorColumns, effect_in_list, start_of, list_at, AreEnds, operator, name_ends, prevail_ends, effect_ends, costs, operators_in, operator_in, OperatorColumnsAlign}
use Rattle.sas_flat.proofs.Tables.{length-table, get_or-table}
use Rattle.sas_flat.proofs.Blocks.{list_length, item_of_list}

-- where an operator starts, the head before its own says
pub start_is : (end : Head → ℕ) (heads : List Head) (k : ℕ) (head : Head) → 0 < k → k ≤ length heads → head ≡ get_or heads (k - 1) head → end head ≡ start_of (map end heads) k
start_is end heads zero head some h at = absurd (omega arith)
start_is end heads (suc k) head some h at =
    let place : suc k - 1 ≡ k = omega arith in
    ap end (at ∙ ap (λ i. get_or heads i head) place) ∙ sym (get_or-map end heads k head 0 (omega arith))

module _ (c : OperatorColumns) (os : List Operator) (is : operators_in c ≡ os) where
  pub as_many : length c.heads.items ≡ length os
  as_many = sym (length-table (length c.heads.items) _) ∙ ap length is

  module _ (k : ℕ) (h : k < length os) where
    pub found : operator_in os k ≡ operator (list_at c.names.items (name_ends c.heads.items) k) (list_at c.prevail.items (prevail_ends c.heads.items) k)
        (list_at c.effects (effect_ends c.heads.items) k) (slice_index (costs c.heads.items) k)
    found = ap (λ l. operator_in l k) (sym is) ∙ get_or-table (length c.heads.items) _ k _ (omega (arith, h, as_many))

    -- where its items end, its head says
    module _ (end : Head → ℕ) (head : Head) (at : head ≡ get_or c.heads.items k head) where
      pub end_is : slice_index (map end c.heads.items) k ≡ end head
      end_is = get_or-map end c.heads.items k head 0 (omega (arith, h, as_many)) ∙ ap end (sym at)

      module _ (count : ℕ) (are : AreEnds (map end c.heads.items) count) where
        there : k < length (map end c.heads.items)
        there = omega (arith, h, as_many, length-map c.heads.items end)

        pub ordered : start_of (map end c.heads.items) k ≤ end head
        ordered = omega (arith, end_is, are.ascending k there)

        pub within : end head ≤ count
        within = omega (arith, end_is, are.within k there)

    module _ (aligned : OperatorColumnsAlign AreEnds c) where
      below : k < length (effect_ends c.heads.items)
      below = omega (arith, h, as_many, length-map c.heads.items (λ (h : Head). h.effects))

      pub effect_number : length (operator_in os k).effects + start_of (effect_ends c.heads.items) k ≡ slice_index (effect_ends c.heads.items) k
      effect_number =
          ap (λ (o : Operator). length o.effects + start_of (effect_ends c.heads.items) k) found
          ∙ list_length c.effects (effect_ends c.heads.items) aligned.effects k below

      module _ (e : ℕ) (b : e < length (operator_in os k).effects) where
        pub effect_within : start_of (effect_ends c.heads.items) k + e < length c.effects
        effect_within = omega (arith, b, effect_number, aligned.effects.within k below)

        pub effect_found : effect_in_list (operator_in os k).effects e ≡ effect_in_list c.effects (start_of (effect_ends c.heads.items) k + e)
        effect_found =
            ap (λ (o : Operator). effect_in_list o.effects e) found
            ∙ item_of_list c.effects (effect_ends c.heads.items) aligned.effects k below e _ (omega (arith, b, ap (λ (o : Operator). length o.effects) found))

-- The variable at an index of the columns.
use Rattle.sas_flat.proofs.Imports.{◌≡◌, ℕ, ◌+◌, ◌<◌, ◌≤◌, List, [], length, get_or, sym, ap, ◌∙◌, arith, slice_index, slice_get, None, Some, option_map, slice_get-get_or, Variable, range_of, layer_of, value_name, VariableColumns, start_of, list_at, lists_of, variables_in, AreEnds, VariableColumnsAlign}
use Rattle.sas_flat.proofs.Tables.{length-table, get_or-table}
use Rattle.sas_flat.proofs.Blocks.{list_length, item_of_list}
use Rattle.sas_flat.proofs.Rows.{variable_count, name_is, range_is, layer_is, value_is}

module _ (c : VariableColumns) (vs : List Variable) (is : variables_in c ≡ vs) where
  pub as_many : length c.ends ≡ length vs
  as_many = sym (length-table (length c.ends) (list_at c.values c.ends)) ∙ variable_count c.names c.layers.items (lists_of c.values c.ends) vs is

  pub name_found : (k : ℕ) → k < length vs → option_map (λ (v : Variable). v.name) (slice_get vs k) ≡ Some (get_or c.names k [])
  name_found k h = name_is c.names c.layers.items (lists_of c.values c.ends) vs is k h

  pub layer_found : (k : ℕ) → k < length vs → layer_of vs k ≡ get_or c.layers.items k None
  layer_found k h = layer_is c.names c.layers.items (lists_of c.values c.ends) vs is k h

  module _ (aligned : VariableColumnsAlign AreEnds c) (k : ℕ) (h : k < length vs) where
    there : k < length c.ends
    there = omega (arith, h, as_many)

    pub values_ordered : start_of c.ends k ≤ slice_index c.ends k
    values_ordered = aligned.values.ascending k there

    pub value_number : range_of vs k + start_of c.ends k ≡ slice_index c.ends k
    value_number =
        ap (λ n. n + start_of c.ends k) (range_is c.names c.layers.items (lists_of c.values c.ends) vs is k h)
        ∙ ap (λ l. length l + start_of c.ends k) (get_or-table (length c.ends) (list_at c.values c.ends) k [] there)
        ∙ list_length c.values c.ends aligned.values k there

    module _ (i : ℕ) (of : i < range_of vs k) where
      list_is : get_or (lists_of c.values c.ends) k [] ≡ list_at c.values c.ends k
      list_is = get_or-table (length c.ends) (list_at c.values c.ends) k [] there

      below : i < length (list_at c.values c.ends k)
      below = omega (arith, of, value_number, list_length c.values c.ends aligned.values k there)

      pub value_found : value_name vs k i ≡ Some (get_or c.values (start_of c.ends k + i) [])
      value_found =
          value_is c.names c.layers.items (lists_of c.values c.ends) vs is k i h
          ∙ ap (λ l. slice_get l i) list_is
          ∙ slice_get-get_or (list_at c.values c.ends k) i [] below
          ∙ ap (λ x. Some x) (item_of_list c.values c.ends aligned.values k there i [] below)

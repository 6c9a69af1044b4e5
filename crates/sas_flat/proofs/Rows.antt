-- Variables in columns: the variable at an index, and appending a variable.
use Rattle.sas_flat.proofs.Imports.{◌≡◌, ℕ, ◌<◌, ◌≤◌, List, [], ◌∷◌, ◌++◌, length, get_or, refl, sym, ap, ◌∙◌, arith, length-append, slice_get_past, slice_get, Option, Some, None, option_map, option_and_then, option_map_or, get_or-append, get_or-append_seam, Variable, range_of, layer_of, value_name, variable, variables_from}
use Rattle.sas_flat.proofs.Tables.{length-table, table_none, table_more, slice_get-table}

-- in a column with as many items as another, what is put behind the items stands at the other's end
pub last_item : {X : Type 0} (xs : List X) (x : X) (d : X) (n : ℕ) → length xs ≡ n → get_or (xs ++ x ∷ []) n d ≡ x
last_item xs x d n is = ap (λ k. get_or (xs ++ x ∷ []) k d) (sym is) ∙ get_or-append_seam xs x [] d

-- ---- variables

pub no_variable : (ns : List (List ℕ)) (ls : List (Option ℕ)) (vs : List (List (List ℕ))) → length vs ≡ 0 → variables_from ns ls vs ≡ []
no_variable ns ls vs none = table_none (length vs) _ none

same_variable : (n m : List ℕ) (l k : Option ℕ) (v w : List (List ℕ)) → n ≡ m → l ≡ k → v ≡ w → variable n l v ≡ variable m k w
same_variable n m l k v w names layers values =
    ap (λ x. variable x l v) names ∙ ap (λ x. variable m x v) layers ∙ ap (λ x. variable m k x) values

module _ (ns : List (List ℕ)) (ls : List (Option ℕ)) (vs : List (List (List ℕ))) where
  pub rows_more : (n : List ℕ) (l : Option ℕ) (v : List (List ℕ)) → length ns ≡ length vs → length ls ≡ length vs
      → variables_from (ns ++ n ∷ []) (ls ++ l ∷ []) (vs ++ v ∷ []) ≡ variables_from ns ls vs ++ variable n l v ∷ []
  rows_more n l v names layers = table_more (length vs) (length (vs ++ v ∷ [])) _ _ (variable n l v) (omega (arith, length-append vs (v ∷ [])))
      (λ i h. same_variable _ _ _ _ _ _ (get_or-append ns (n ∷ []) [] i (omega (arith, names))) (get_or-append ls (l ∷ []) None i (omega (arith, layers)))
      (get_or-append vs (v ∷ []) [] i h))
      (same_variable _ _ _ _ _ _ (last_item ns n [] (length vs) names) (last_item ls l None (length vs) layers) (get_or-append_seam vs v [] []))

  module _ (all : List Variable) (is : variables_from ns ls vs ≡ all) where
    pub variable_count : length vs ≡ length all
    variable_count = sym (length-table (length vs) _) ∙ ap length is

    pub variable_at_place : (i : ℕ) → i < length all → slice_get all i ≡ Some (variable (get_or ns i []) (get_or ls i None) (get_or vs i []))
    variable_at_place i h = ap (λ l. slice_get l i) (sym is) ∙ slice_get-table (length vs) _ i (omega (arith, variable_count))

    pub name_is : (i : ℕ) → i < length all → option_map (λ (v : Variable). v.name) (slice_get all i) ≡ Some (get_or ns i [])
    name_is i h = ap (λ x. option_map (λ (v : Variable). v.name) x) (variable_at_place i h)

    pub range_is : (i : ℕ) → i < length all → range_of all i ≡ length (get_or vs i [])
    range_is i h = ap (λ x. option_map_or (λ (v : Variable). length v.values) x 0) (variable_at_place i h)

    pub layer_is : (i : ℕ) → i < length all → layer_of all i ≡ get_or ls i None
    layer_is i h = ap (λ x. option_and_then (λ (v : Variable). v.layer) x) (variable_at_place i h)

    pub value_is : (i j : ℕ) → i < length all → value_name all i j ≡ slice_get (get_or vs i []) j
    value_is i j h = ap (λ x. option_and_then (λ (v : Variable). slice_get v.values j) x) (variable_at_place i h)

-- ---- what isn't there

pub no_name : (all : List Variable) (i : ℕ) → length all ≤ i → option_map (λ (v : Variable). v.name) (slice_get all i) ≡ None
no_name all i h = ap (λ x. option_map (λ (v : Variable). v.name) x) (slice_get_past all i h)

no_value_of : (v : Option Variable) (j : ℕ) → option_map_or (λ (v : Variable). length v.values) v 0 ≤ j → option_and_then (λ (v : Variable). slice_get v.values j) v ≡ None
no_value_of None j h = refl
no_value_of (Some v) j h = slice_get_past v.values j h

pub no_value : (all : List Variable) (i j : ℕ) → range_of all i ≤ j → value_name all i j ≡ None
no_value all i j h = no_value_of (slice_get all i) j h

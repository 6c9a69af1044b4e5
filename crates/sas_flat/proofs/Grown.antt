-- Columns to which an item was appended, or only a part of one.
use Rattle.sas_flat.proofs.Imports.{◌≡◌, ℕ, ◌+◌, ◌<◌, Option, List, [], ◌∷◌, ◌++◌, length, take, map, refl, sym, ap, ◌∙◌, arith, length-append, slice_index, length-map, map-append, get_or-append, Change, Fact, Effect, Operator, Head, table, start_of, list_at, lists_of, items_after, AreEnds, AreOpen, effect_with, effects_of, Kept, Hold, OperatorColumns, operator, name_ends, prevail_ends, effect_ends, costs, operators_in, end_head, open_operator, OperatorColumnsAlign, VariableColumns, variable, variables_in, variables_from, VariableColumnsAlign}
use Rattle.sas_flat.proofs.Tables.{length-table, table_none, table_same, table_more}
use Rattle.sas_flat.proofs.EffectRows.{effects_more}
use Rattle.sas_flat.proofs.Blocks.{no_ends, list_first, list_last, ends_done, list_done, lists_done, ends_closed, lists_closed, ends_opened, list_opened, lists_opened, after_opened}
use Rattle.sas_flat.proofs.Rows.{no_variable, last_item, rows_more}

-- ---- rules

module _ (changes longer : List Change) (lists more : List (List Fact)) (c : Change) (facts : List Fact) (pairs : length lists ≡ length changes)
    (one_change : longer ≡ changes ++ c ∷ []) (one_list : more ≡ lists ++ facts ∷ []) where
  pub rules_more : effects_of longer more ≡ effects_of changes lists ++ effect_with c facts ∷ []
  rules_more = rw (one_change, one_list) (effects_more changes lists c facts pairs)

  pub pairs_more : length more ≡ length longer
  pairs_more = omega (arith, pairs, ap length one_change, ap length one_list, length-append changes (c ∷ []), length-append lists (facts ∷ []))

-- ---- variables

pub no_variables : (c : VariableColumns) → c.names ≡ [] → c.layers.items ≡ [] → c.values ≡ [] → c.ends ≡ [] → Hold (VariableColumnsAlign AreEnds) variables_in c []
no_variables c names layers values ends = record {
  align = record { names = rw (names, ends) refl; layers = rw (layers, ends) refl; values = rw (values, ends) no_ends };
  is = no_variable _ _ _ (length-table _ _ ∙ ap length ends);
}

same_variables : (old new : VariableColumns) → new.names ≡ old.names → new.layers.items ≡ old.layers.items → lists_of new.values new.ends ≡ lists_of old.values old.ends
    → variables_in new ≡ variables_in old
same_variables old new names layers lists =
    ap (λ l. variables_from l new.layers.items (lists_of new.values new.ends)) names
    ∙ ap (λ l. variables_from old.names l (lists_of new.values new.ends)) layers
    ∙ ap (λ l. variables_from old.names old.layers.items l) lists

module _ (old new : VariableColumns) (names : new.names ≡ old.names) (layers : new.layers.items ≡ old.layers.items) (ends : new.ends ≡ old.ends) where
  -- value names came after those of the last variable
  pub variables_opened : VariableColumnsAlign AreEnds old → Kept old.values new.values → Hold (VariableColumnsAlign AreOpen) variables_in new (variables_in old)
  variables_opened align values = record {
    align = record { names = rw (names, ends) align.names; layers = rw (layers, ends) align.layers; values = rw ends (ends_opened _ _ _ align.values values) };
    is = same_variables old new names layers (ap (λ e. lists_of new.values e) ends ∙ lists_opened _ _ _ align.values values);
  }

  -- a variable with them is appended
  pub variables_more : (align : VariableColumnsAlign AreEnds old) (values : Kept old.values new.values) (name : List ℕ) (layer : Option ℕ) (end : VariableColumns)
      → Hold (VariableColumnsAlign AreEnds) variables_in end (variables_in new ++ variable name layer (items_after new.values new.ends) ∷ [])
      → Hold (VariableColumnsAlign AreEnds) variables_in end (variables_in old ++ variable name layer values.more ∷ [])
  variables_more align values name layer end closed = record {
    align = closed.align;
    is = closed.is
        ∙ ap (λ l. l ++ variable name layer (items_after new.values new.ends) ∷ []) (variables_opened align values).is
        ∙ ap (λ v. variables_in old ++ variable name layer v ∷ []) (ap (λ e. items_after new.values e) ends ∙ after_opened _ _ _ align.values values);
  }

  -- they are removed
  pub variables_cut : VariableColumnsAlign AreOpen old → new.values ≡ take (start_of old.ends (length old.ends)) old.values
      → Hold (VariableColumnsAlign AreEnds) variables_in new (variables_in old)
  variables_cut align values = record {
    align = record { names = rw (names, ends) align.names; layers = rw (layers, ends) align.layers; values = rw (ends, values) (ends_done _ _ align.values) };
    is = same_variables old new names layers (ap (λ e. lists_of new.values e) ends ∙ ap (λ l. lists_of l old.ends) values ∙ lists_done _ _ align.values);
  }

pub variables_closed : (old new : VariableColumns) (name : List ℕ) (layer : Option ℕ) → VariableColumnsAlign AreOpen old → new.names ≡ old.names ++ name ∷ []
    → new.layers.items ≡ old.layers.items ++ layer ∷ [] → new.values ≡ old.values → new.ends ≡ old.ends ++ length old.values ∷ []
    → Hold (VariableColumnsAlign AreEnds) variables_in new (variables_in old ++ variable name layer (items_after old.values old.ends) ∷ [])
variables_closed old new name layer align names layers values ends =
    let many = length-table (length old.ends) (list_at old.values old.ends) in
    let more = ap length ends ∙ length-append old.ends _ in
    record {
      align = record {
        names = ap length names ∙ length-append old.names _ ∙ ap (λ n. n + 1) align.names ∙ sym more;
        layers = ap length layers ∙ length-append old.layers.items _ ∙ ap (λ n. n + 1) align.layers ∙ sym more;
        values = rw (ends, values) (ends_closed _ _ align.values);
      };
      is = ap (λ l. variables_from l new.layers.items (lists_of new.values new.ends)) names
          ∙ ap (λ l. variables_from (old.names ++ name ∷ []) l (lists_of new.values new.ends)) layers
          ∙ ap (λ l. variables_from (old.names ++ name ∷ []) (old.layers.items ++ layer ∷ []) l)
          (ap (λ l. lists_of l new.ends) values ∙ ap (λ e. lists_of old.values e) ends ∙ lists_closed _ _ align.values)
          ∙ rows_more old.names old.layers.items (lists_of old.values old.ends) name layer _ (align.names ∙ sym many) (align.layers ∙ sym many);
    }

-- ---- operators

pub no_operators : (c : OperatorColumns) → c.names.items ≡ [] → c.prevail.items ≡ [] → c.effects ≡ [] → c.heads.items ≡ [] → Hold (OperatorColumnsAlign AreEnds) operators_in c []
no_operators c names prevail effects heads = record {
  align = record { names = rw (names, heads) no_ends; prevail = rw (prevail, heads) no_ends; effects = rw (effects, heads) no_ends };
  is = table_none _ _ (ap length heads);
}

same_operator : (n m : List ℕ) (p q : List Fact) (e f : List Effect) (c d : ℕ) → n ≡ m → p ≡ q → e ≡ f → c ≡ d → operator n p e c ≡ operator m q f d
same_operator n m p q e f c d names prevails effects costs =
    ap (λ x. operator x p e c) names ∙ ap (λ x. operator m x e c) prevails ∙ ap (λ x. operator m q x c) effects ∙ ap (λ x. operator m q f x) costs

abbrev operators_of : List ℕ → List Fact → List Effect → List Head → List Operator
operators_of names prevail effects heads = table (length heads) (λ index. operator
    (list_at names (name_ends heads) index)
    (list_at prevail (prevail_ends heads) index)
    (list_at effects (effect_ends heads) index)
    (slice_index (costs heads) index))

module _ (old new : OperatorColumns) (names : new.names.items ≡ old.names.items) (heads : new.heads.items ≡ old.heads.items) where
  same_operators : ((k : ℕ) → k < length old.heads.items → list_at new.prevail.items (prevail_ends old.heads.items) k ≡ list_at old.prevail.items (prevail_ends old.heads.items) k)
      → ((k : ℕ) → k < length old.heads.items → list_at new.effects (effect_ends old.heads.items) k ≡ list_at old.effects (effect_ends old.heads.items) k)
      → operators_in new ≡ operators_in old
  same_operators prevail effects =
      ap (λ l. operators_of l new.prevail.items new.effects new.heads.items) names
      ∙ ap (λ l. operators_of old.names.items new.prevail.items new.effects l) heads
      ∙ table_same (length old.heads.items) _ _ (λ k h. same_operator _ _ _ _ _ _ _ _ refl (prevail k h) (effects k h) refl)

  there : (end : Head → ℕ) (k : ℕ) → k < length old.heads.items → k < length (map end old.heads.items)
  there end k h = omega (arith, h, length-map old.heads.items end)

  -- prevail conditions and effects came after those of the last operator
  pub operators_opened : OperatorColumnsAlign AreEnds old → Kept old.prevail.items new.prevail.items → Kept old.effects new.effects
      → Hold (OperatorColumnsAlign AreOpen) operators_in new (operators_in old)
  operators_opened align prevail effects = record {
    align = record {
      names = rw (names, heads) align.names;
      prevail = rw heads (ends_opened _ _ _ align.prevail prevail);
      effects = rw heads (ends_opened _ _ _ align.effects effects);
    };
    is = same_operators (λ k h. list_opened _ _ _ align.prevail prevail k (there _ k h)) (λ k h. list_opened _ _ _ align.effects effects k (there _ k h));
  }

  -- an operator with them is appended
  pub operators_more : (align : OperatorColumnsAlign AreEnds old) (prevail : Kept old.prevail.items new.prevail.items) (effects : Kept old.effects new.effects)
      (name : List ℕ) (cost : ℕ) (end : OperatorColumns)
      → Hold (OperatorColumnsAlign AreEnds) operators_in end (operators_in new ++ open_operator new name cost ∷ [])
      → Hold (OperatorColumnsAlign AreEnds) operators_in end (operators_in old ++ operator name prevail.more effects.more cost ∷ [])
  operators_more align prevail effects name cost end closed = record {
    align = closed.align;
    is = closed.is
        ∙ ap (λ l. l ++ open_operator new name cost ∷ []) (operators_opened align prevail effects).is
        ∙ ap (λ o. operators_in old ++ o ∷ [])
        (ap (λ hs. operator name (items_after new.prevail.items (prevail_ends hs)) (items_after new.effects (effect_ends hs)) cost) heads
        ∙ same_operator _ _ _ _ _ _ _ _ refl (after_opened _ _ _ align.prevail prevail) (after_opened _ _ _ align.effects effects) refl);
  }

  -- they are removed
  pub operators_cut : OperatorColumnsAlign AreOpen old
      → new.prevail.items ≡ take (start_of (prevail_ends old.heads.items) (length (prevail_ends old.heads.items))) old.prevail.items
      → new.effects ≡ take (start_of (effect_ends old.heads.items) (length (effect_ends old.heads.items))) old.effects
      → Hold (OperatorColumnsAlign AreEnds) operators_in new (operators_in old)
  operators_cut align prevail effects = record {
    align = record {
      names = rw (names, heads) align.names;
      prevail = rw (heads, prevail) (ends_done _ _ align.prevail);
      effects = rw (heads, effects) (ends_done _ _ align.effects);
    };
    is = same_operators
        (λ k h. ap (λ l. list_at l (prevail_ends old.heads.items) k) prevail ∙ list_done _ _ align.prevail k (there _ k h))
        (λ k h. ap (λ l. list_at l (effect_ends old.heads.items) k) effects ∙ list_done _ _ align.effects k (there _ k h));
  }

-- a column has the items of one operator more, which end where the last head says
record Grows {X : Type 0} (end : Head → ℕ) (old new list : List X) (heads more : List Head) : Type 0 where
  ends : AreEnds (map end more) (length new)
  same : (k : ℕ) → k < length heads → list_at new (map end more) k ≡ list_at old (map end heads) k
  last : list_at new (map end more) (length heads) ≡ list

module _ {X : Type 0} (end : Head → ℕ) (old new list : List X) (heads more : List Head) (head : Head) (are : AreOpen (map end heads) (length new))
    (grown : more ≡ heads ++ head ∷ []) (is : end head ≡ length new)
    (same : (k : ℕ) → k < length (map end heads) → list_at new (map end heads) k ≡ list_at old (map end heads) k) (last : items_after new (map end heads) ≡ list) where
  ends_grown : map end more ≡ map end heads ++ length new ∷ []
  ends_grown = ap (λ l. map end l) grown ∙ map-append end heads (head ∷ []) ∙ ap (λ n. map end heads ++ n ∷ []) is

  grows : Grows end old new list heads more
  grows = record {
    ends = rw ends_grown (ends_closed new (map end heads) are);
    same = λ k h. ap (λ e. list_at new e k) ends_grown ∙ list_first new (map end heads) (length new ∷ []) k (omega (arith, h, length-map heads end))
        ∙ same k (omega (arith, h, length-map heads end));
    last = ap (λ e. list_at new e (length heads)) ends_grown ∙ ap (λ n. list_at new (map end heads ++ length new ∷ []) n) (sym (length-map heads end))
        ∙ list_last new (map end heads) are ∙ last;
  }

module _ (old new : OperatorColumns) (name : List ℕ) (cost : ℕ) (align : OperatorColumnsAlign AreOpen old) (names : new.names.items ≡ old.names.items ++ name)
    (prevail : new.prevail.items ≡ old.prevail.items) (effects : new.effects ≡ old.effects) (heads : new.heads.items ≡ old.heads.items ++ end_head new cost ∷ []) where
  names_kept : Kept old.names.items new.names.items
  names_kept = record { more = name; is = names }

  name_grows : Grows (λ (h : Head). h.name) old.names.items new.names.items name old.heads.items new.heads.items
  unfolding names_kept
  name_grows = grows _ _ _ _ _ _ (end_head new cost) (ends_opened _ _ _ align.names names_kept) heads refl (list_opened _ _ _ align.names names_kept) (after_opened _ _ _ align.names names_kept)

  prevail_grows : Grows (λ (h : Head). h.prevail) old.prevail.items new.prevail.items (items_after old.prevail.items (prevail_ends old.heads.items)) old.heads.items new.heads.items
  prevail_grows = grows _ _ _ _ _ _ (end_head new cost) (rw prevail align.prevail) heads refl
      (λ k h. ap (λ l. list_at l (prevail_ends old.heads.items) k) prevail) (ap (λ l. items_after l (prevail_ends old.heads.items)) prevail)

  effects_grow : Grows (λ (h : Head). h.effects) old.effects new.effects (items_after old.effects (effect_ends old.heads.items)) old.heads.items new.heads.items
  effects_grow = grows _ _ _ _ _ _ (end_head new cost) (rw effects align.effects) heads refl
      (λ k h. ap (λ l. list_at l (effect_ends old.heads.items) k) effects) (ap (λ l. items_after l (effect_ends old.heads.items)) effects)

  cost_at : costs new.heads.items ≡ costs old.heads.items ++ cost ∷ []
  cost_at = ap costs heads ∙ map-append (λ (h : Head). h.cost) old.heads.items (end_head new cost ∷ [])

  pub operators_closed : Hold (OperatorColumnsAlign AreEnds) operators_in new (operators_in old ++ open_operator old name cost ∷ [])
  operators_closed = record {
    align = record { names = name_grows.ends; prevail = prevail_grows.ends; effects = effects_grow.ends };
    is = table_more (length old.heads.items) (length new.heads.items) _ _ (open_operator old name cost) (ap length heads ∙ length-append old.heads.items (end_head new cost ∷ []))
        (λ k h. same_operator _ _ _ _ _ _ _ _ (name_grows.same k h) (prevail_grows.same k h) (effects_grow.same k h)
        (ap (λ l. slice_index l k) cost_at ∙ get_or-append (costs old.heads.items) (cost ∷ []) 0 k (omega (arith, h, length-map old.heads.items (λ (h : Head). h.cost)))))
        (same_operator _ _ _ _ _ _ _ _ name_grows.last prevail_grows.last effects_grow.last
        (ap (λ l. slice_index l (length old.heads.items)) cost_at ∙ last_item (costs old.heads.items) cost 0 (length old.heads.items) (length-map old.heads.items (λ (h : Head). h.cost))));
  }

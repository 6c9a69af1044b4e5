-- Lists that are stored one after another, each given by its end.
use Rattle.std.specs.Prelude.{◌≡◌, ℕ, zero, suc, ◌<◌, ◌≤◌, List, length, drop, slice_index, slice_range}
use Rattle.sas_flat.specs.declared.lists.ListColumns.{ListColumns}
use Rattle.sas_flat.specs.ByKey.{table}

-- a list starts at the end of the previous list
abbrev pub start_of : List ℕ → ℕ → ℕ
start_of ends zero = 0
start_of ends (suc index) = slice_index ends index

abbrev pub list_at : {X : Type 0} → List X → List ℕ → ℕ → List X
list_at items ends index = slice_range items (start_of ends index) (slice_index ends index)

abbrev pub lists_of : {X : Type 0} → List X → List ℕ → List (List X)
lists_of items ends = table (length ends) (list_at items ends)

-- the ends of lists with `count` items in total
pub record AreEnds (ends : List ℕ) (count : ℕ) : Type 0 where
  pub ascending : (index : ℕ) → index < length ends → start_of ends index ≤ slice_index ends index
  pub within : (index : ℕ) → index < length ends → slice_index ends index ≤ count
  pub closed : start_of ends (length ends) ≡ count

-- the ends of lists with `count` items in total or fewer; the items after them begin the next list
pub record AreOpen (ends : List ℕ) (count : ℕ) : Type 0 where
  pub done : AreEnds ends (start_of ends (length ends))
  pub within : start_of ends (length ends) ≤ count

-- the items after the last list
abbrev pub items_after : {X : Type 0} → List X → List ℕ → List X
items_after items ends = drop (start_of ends (length ends)) items

-- the lists in these columns
abbrev pub lists_in : {X : Type 0} → ListColumns X → List (List X)
lists_in c = lists_of c.items.items c.ends

-- the column of ends has the ends of lists in the column of items
abbrev pub ListColumnsAlign : {X : Type 0} → (List ℕ → ℕ → Type 0) → ListColumns X → Type 0
ListColumnsAlign Ends c = Ends c.ends (length c.items.items)

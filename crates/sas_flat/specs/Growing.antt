-- Lists to which items were only appended, and columns that hold a list of items.
use Rattle.std.specs.Prelude.{◌≡◌, List, ◌++◌}

-- the old items are still at the start of the new list
pub record Kept {X : Type 0} (old new : List X) : Type 0 where
  pub more : List X
  pub is : new ≡ old ++ more

-- the columns align, and they hold these items
pub record Hold {C X : Type 0} (Align : C → Type 0) (items_in : C → List X) (c : C) (items : List X)
    : Type 0 where
  pub align : Align c
  pub is : items_in c ≡ items

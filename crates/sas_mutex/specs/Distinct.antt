-- The facts of each group without duplicates.
use Rattle.std.specs.Prelude.{◌≡◌, ◌≢◌, ℕ, ◌<◌, ◌≤◌, ◌↔◌, ◌⊎◌, List, [], ◌∷◌, length, slice_index_or, Contains}
use Rattle.std.specs.List.{AllPairs}
use Rattle.sas_core.specs.declared.parts.Fact.{Fact}
use Rattle.sas_core.specs.declared.parts.Parts.{Parts}
use Rattle.sas_core.specs.Grounded.{group_at}

-- the group's own list, or the list in the task if the own list is empty
unfoldable pub own_or : List Fact → List Fact → List Fact
own_or [] listed = listed
own_or (fact ∷ own) listed = fact ∷ own

-- the facts of the group with this index, given the own lists of the groups
abbrev pub facts_at : Parts → List (List Fact) → ℕ → List Fact
facts_at p own place = own_or (slice_index_or own place []) (group_at p place)

-- these are the facts of `listed` without duplicates
pub record AreDistinct (facts listed : List Fact) : Type 0 where
  pub short : length facts ≤ length listed
  pub same : (fact : Fact) → Contains facts fact ↔ Contains listed fact
  pub once : AllPairs (λ (one other : Fact). one ≢ other) facts

-- the own lists of the groups: each gives the facts of its group without duplicates
abbrev pub AreOwnLists : Parts → List (List Fact) → Type 0
AreOwnLists p own = (place : ℕ) → place < length p.groups
    → AreDistinct (facts_at p own place) (group_at p place)

-- the fact is below the other: on a lower variable, or on the same variable with a lower value
abbrev pub IsBelow : Fact → Fact → Type 0
IsBelow fact other = (fact.var < other.var) ⊎ ((fact.var ≡ other.var) × (fact.value < other.value))

-- The groups of each fact, by the number of the fact.
use Rattle.std.specs.Prelude.{◌≡◌, ◌≢◌, ℕ, zero, suc, ◌+◌, ◌<◌, ◌≤◌, ◌^◌, ◌↔◌, Option, None, Some, List, [], length, map, slice_index, slice_index_or, All, Contains}
use Rattle.std.specs.List.Sorted.{IsNonDecreasing}
use Rattle.sas_core.specs.declared.parts.Fact.{Fact}
use Rattle.sas_core.specs.declared.parts.Parts.{Parts}
use Rattle.sas_core.specs.Grounded.{group_at}
use Rattle.sas_core.specs.Variables.{FactExists, range_of}
use Rattle.sas_flat.specs.declared.by_key.Entry.{Entry}
use Rattle.sas_mutex.specs.Distinct.{facts_at}

-- the number of facts on variables below this one; the facts of a task are numbered variable by
-- variable
abbrev pub facts_below : Parts → ℕ → ℕ
facts_below p zero = 0
facts_below p (suc var) = facts_below p var + range_of p.variables var

-- the number of each variable's first fact
pub record AreFirstNumbers (p : Parts) (firsts : List ℕ) : Type 0 where
  pub one_each : length firsts ≡ length p.variables
  pub are : (var : ℕ) → var < length p.variables → slice_index firsts var ≡ facts_below p var

-- the number of the fact, given the number of each variable's first fact; if the variable doesn't
-- exist, that number is taken as 0
abbrev pub fact_number : List ℕ → Fact → ℕ
fact_number firsts fact = slice_index_or firsts fact.var 0 + fact.value

-- the group with this index exists and contains the fact
pub record HasFact (p : Parts) (place : ℕ) (fact : Fact) : Type 0 where
  pub exists : place < length p.groups
  pub among : Contains (group_at p place) fact

-- the same, and it contains another fact, too
pub record HasFactBeside (p : Parts) (place : ℕ) (fact : Fact) : Type 0 where
  pub exists : place < length p.groups
  pub among : Contains (group_at p place) fact
  pub other : Fact
  pub beside : Contains (group_at p place) other
  pub differ : other ≢ fact

-- the list with this key; past the last list, the empty list
abbrev pub under : List (List ℕ) → ℕ → List ℕ
under lists key = slice_index_or lists key []

-- the values of facts can be added to these numbers
abbrev pub AreLow : List ℕ → Type 0
AreLow firsts = All (λ (first : ℕ). first ≤ 2 ^ 62) firsts

-- the list of each fact of the task contains the groups that contain the fact; every list is
-- ascending
pub record AreByFact (p : Parts) (firsts : List ℕ) (groups : List (List ℕ)) : Type 0 where
  pub are : (fact : Fact) → FactExists p.variables fact
      → (place : ℕ) → Contains (under groups (fact_number firsts fact)) place ↔ HasFact p place fact
  pub ascending : (key : ℕ) → IsNonDecreasing (under groups key)

-- one entry of the item for each fact; the key is the number of the fact
abbrev pub entries_of : List ℕ → ℕ → List Fact → List (Entry ℕ)
entries_of firsts item facts =
    map (λ (fact : Fact). record { key = fact_number firsts fact; item = item }) facts

-- those of these groups that have more than one fact, given the own lists of the groups
abbrev pub AreLarger : Parts → List (List Fact) → List ℕ → List ℕ → Type 0
AreLarger p own groups larger = (place : ℕ) → Contains larger place
    ↔ (Contains groups place × (place < length p.groups) × (1 < length (facts_at p own place)))

-- the same for each list of groups; none if no group of the task has just one fact
abbrev pub AreLargerOfEach : Parts → List (List Fact) → List (List ℕ) → Option (List (List ℕ))
    → Type 0
AreLargerOfEach p own groups None =
    (place : ℕ) → place < length p.groups → length (facts_at p own place) ≢ 1
AreLargerOfEach p own groups (Some larger) =
    (key : ℕ) → AreLarger p own (under groups key) (under larger key)

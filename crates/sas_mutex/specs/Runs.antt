-- The runs of a group: consecutive facts on the same variable, without duplicates.
use Rattle.std.specs.Prelude.{◌≡◌, ℕ, ◌<◌, ◌≤◌, List, [], ◌∷◌, length, take, drop, All, slice_index_or}
use Rattle.sas_core.specs.declared.parts.Fact.{Fact}
use Rattle.sas_core.specs.declared.parts.Parts.{Parts}
use Rattle.sas_mutex.specs.Distinct.{facts_at}

-- all facts are on one variable
abbrev pub AreOnOne : List Fact → Type 0
AreOnOne facts = (var : ℕ) × All (λ (f : Fact). f.var ≡ var) facts

-- the facts consist of runs of these lengths, each on one variable
abbrev pub AreRuns : List Fact → List ℕ → Type 0
AreRuns facts [] = facts ≡ []
AreRuns facts (n ∷ runs) = (n ≤ length facts)
    × AreOnOne (take n facts)
    × AreRuns (drop n facts) runs

-- the runs of all groups of the task, given their own lists
pub record AreRunsOf (p : Parts) (own : List (List Fact)) (runs : List (List ℕ)) : Type 0 where
  pub one_each : length runs ≡ length p.groups
  pub are : (place : ℕ) → place < length p.groups
      → AreRuns (facts_at p own place) (slice_index_or runs place [])

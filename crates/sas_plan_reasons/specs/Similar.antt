-- How similar names are found.
use Rattle.std.specs.Prelude.{◌≡◌, ◌≢◌, ℕ, List, map, sum, sum_by}
use Rattle.std.specs.Cmp.Lexicographic.{slice_cmp}
use Rattle.std.specs.List.Sorted.{IsPermutation, IsSorted}
use Rattle.std.specs.Ordering.{nat_cmp}
use Rattle.sas_plan_reasons.specs.declared.similar.Likeness.{Likeness}
use Rattle.sas_plan_reasons.specs.declared.similar.Likeness.TheVariants.{Same, Permuted, Other}
use Rattle.sas_plan_reasons.specs.declared.similar.Sought.{Sought}

-- the words in ascending order
pub record AreSorted (words sorted : List (List ℕ)) : Type 0 where
  pub same : IsPermutation words sorted
  pub ascend : IsSorted (slice_cmp nat_cmp) sorted

-- these words are sought
pub record IsSought (words : List (List ℕ)) (sought : Sought) : Type 0 where
  pub same : map (λ word. word.now) sought.words.items ≡ words
  pub sorted : AreSorted words (map (λ word. word.now) sought.sorted.items)
  pub sum : sought.sum ≡ sum_by sum words

-- how the words that are sought are these
abbrev pub IsLikeness : List (List ℕ) → List (List ℕ) → Likeness → Type 0
IsLikeness sought words Same = words ≡ sought
IsLikeness sought words Permuted = IsPermutation sought words × (words ≢ sought)
IsLikeness sought words Other = IsPermutation sought words → ⊥

-- The lowest number with a property.
use Rattle.std.specs.Prelude.{ℕ, ◌<◌}

-- n has the property, and no lower number has it
pub record IsLowest (Has : ℕ → Type 0) (n : ℕ) : Type 0 where
  pub has : Has n
  pub first : (lower : ℕ) → lower < n → Has lower → ⊥

-- m is the lowest number that is related to some number, and n is the lowest such number
pub record AreLowest (Related : ℕ → ℕ → Type 0) (m n : ℕ) : Type 0 where
  pub first : IsLowest (λ k. (l : ℕ) × Related k l) m
  pub lowest : IsLowest (Related m) n

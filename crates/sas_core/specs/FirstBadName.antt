-- The first step of a plan that isn't a name.
use Rattle.std.specs.Prelude.{◌≡◌, ℕ, ◌+◌, List, ◌∷◌, ◌++◌, length}
use Rattle.std.specs.List.{AllByRecursion}
use Rattle.sas_core.specs.Names.{IsName}

-- the number of the first step that isn't a name, counted from 1
pub record IsFirstBadName (steps : List (List ℕ)) (step : ℕ) : Type 0 where
  pub before : List (List ℕ)
  pub bad : List ℕ
  pub after : List (List ℕ)
  pub whole : steps ≡ before ++ bad ∷ after
  pub names : AllByRecursion IsName before
  pub no_name : IsName bad → ⊥
  pub place : step ≡ length before + 1

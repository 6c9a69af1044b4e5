-- A sequence of checks, and the fault of the first check that fails.
use Rattle.std.specs.Prelude.{ℕ, Bool, if◌then◌else◌, List, [], ◌∷◌, ◌++◌, length, flat_map, Option, Some, None}
use Rattle.sas_core.specs.Numbers.{is_number}

-- a check, and the fault that it reports if it fails
pub record Check (F : Type 0) : Type 0 where
  pub passes : Bool
  pub fault : F

-- the fault of the first check that fails; none if all pass
abbrev pub first_fault : {F : Type 0} → List (Check F) → Option F
first_fault [] = None
first_fault (test ∷ tests) = if test.passes then first_fault tests else Some test.fault

-- a single check
abbrev pub check : {F : Type 0} → Bool → F → List (Check F)
check passes fault = record { passes = passes; fault = fault } ∷ []

-- the checks of a list: its length, which must be a number of the format, then each item in order
abbrev pub listed : {F A : Type 0} → F → (A → List (Check F)) → List A → List (Check F)
listed too_many checks_of items =
    check (is_number (length items)) too_many ++ flat_map checks_of items

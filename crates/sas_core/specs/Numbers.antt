-- Which numbers a file may contain.
use Rattle.std.specs.Prelude.{ℕ, ◌^◌, ◌<◌, Bool, nat_lt, Option, IfSome}

-- a number is at most 2,147,483,647
abbrev pub IsNumber : ℕ → Type 0
IsNumber n = n < 2 ^ 31

abbrev pub is_number : ℕ → Bool
is_number n = nat_lt n (2 ^ 31)

-- an optional number; a file writes -1 for none
abbrev pub IsSigned : Option ℕ → Type 0
IsSigned n = IfSome n IsNumber

-- a plan's cost is at most 18,446,744,073,709,551,615
abbrev pub IsPlanCost : ℕ → Type 0
IsPlanCost n = n < 2 ^ 64

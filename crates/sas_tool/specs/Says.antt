-- What the exit status of `plan` says.
use Rattle.std.specs.Prelude.{◌≡◌, ◌↔◌, ◌<◌, ℕ, List}
use Rattle.sas_answers.specs.ValidLine.{valid_line}
use Rattle.sas_requests.specs.Headline.{Solves}

-- What an exit status says of the bytes b of a task and c of a plan. `Sent` holds of the bytes that
-- were written.
pub record Says (b c : List ℕ) (Sent : List ℕ → Type 0) (status : ℕ) : Type 0 where
  -- 0: a line was written that says that the plan is valid, and it is true
  pub yes : status ≡ 0 → (steps cost : ℕ) × Sent (valid_line steps cost)
      × Solves b c (valid_line steps cost)
  -- 1: no such line is true
  pub no : status ≡ 1 → (steps cost : ℕ) → Solves b c (valid_line steps cost) → ⊥
  -- and the line was written alone exactly if it is true
  pub line : status < 2 → (steps cost : ℕ)
      → Sent (valid_line steps cost) ↔ Solves b c (valid_line steps cost)

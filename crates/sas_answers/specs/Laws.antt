-- What holds of the lines of reasons.
use Rattle.std.specs.Prelude.{◌≡◌, ℕ, List, ◌∷◌}
use Rattle.sas_core.specs.Plain.{IsPlain}

-- the bytes begin with two spaces, and are neither LF nor CR
pub record IsReasonLine (bytes : List ℕ) : Type 0 where
  pub behind : List ℕ
  pub spaces : bytes ≡ 32 ∷ 32 ∷ behind
  pub plain : IsPlain bytes

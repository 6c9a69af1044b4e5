-- Three lines, one behind the other.
use Rattle.std.proofs.lemmas.Grind.{common_steps}
use Rattle.std.proofs.Common.{arith}
use Rattle.sas_plan_reasons.proofs.Imports.{◌≡◌, ℕ, zero, suc, refl, on_ok_weaker, get_or_default, SinceStep, since_line}
use Rattle.sas_plan_reasons.proofs.causes.explain_values.Goals as goal
use Rattle.sas_plan_reasons.proofs.causes.explain_values.Goals.{then-step-eq0, else-step-eq0}

since_some : (step : ℕ) → (step ≡ 0 → ⊥) → SinceStep step ≡ since_line step
since_some zero some = absurd (some refl)
since_some (suc before) some = refl

pub returns : goal.returns
returns c = grind (arith, common_steps, since_some, on_ok_weaker, get_or_default)

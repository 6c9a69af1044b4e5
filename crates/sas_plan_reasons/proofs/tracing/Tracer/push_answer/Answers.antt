-- The verdict, and behind it the reasons.
use Rattle.sas_plan_reasons.proofs.Imports.{refl, pushes_then}
use Rattle.sas_plan_reasons.proofs.tracing.Tracer.push_answer.Goals as goal

pub returns : goal.returns
returns g c =
    let both = pushes_then _ _ _ _ _ _ c.push.ensures c.push_lines.ensures in
    record { same = refl; pieces = refl; status = refl; text = λ start text pushed. both.text start text pushed }

use Rattle.sas_plan_file.proofs.Imports.{[], refl, plan_start}
use Rattle.sas_plan_file.proofs.plan_text.PlanText.new.Goals as goal

pub returns : goal.returns
returns c = record {
  state = plan_start;
  leads = record { items = []; after = refl; spells = refl };
  kept = c.new.ensures.items;
  closed = (λ d. absurd cc, λ d. absurd d);
}

use Rattle.sas_requests.proofs.Imports.{rules, All-map, IsLabel, PlanBytes}
use Rattle.sas_requests.proofs.InMemory.{all_labels}
use Rattle.sas_requests.proofs.slices.are_labels.Goals as goal

pub returns : goal.returns
returns c = (
  λ holds. All-map IsLabel (λ (plan : PlanBytes). plan.label.now) c.args.plans.now (search rules),
  λ labels. (let each = all_labels IsLabel c.args.plans.now labels in search rules),
)

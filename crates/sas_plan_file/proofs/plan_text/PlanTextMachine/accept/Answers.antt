use Rattle.sas_plan_file.proofs.Imports.{◌∙◌, sym, false_from_ne_true}
use Rattle.sas_plan_file.proofs.PlanKeeping.{keeps_step, keeps_cost}
use Rattle.sas_plan_file.proofs.plan_text.PlanTextMachine.accept.Goals as goal
use Rattle.sas_plan_file.proofs.plan_text.PlanTextMachine.accept.Goals.{in-Cost, in_default}

pub returns-clause-led : goal.returns-clause-led
returns-clause-led c = λ before _ h.
    elim c.match-matches.branch [
      | in-Cost w ↦
          let said = rw w.in-Cost.is at c.in_ok-plan_line.ensures in
          keeps_cost before c.args.self.now _ _ _ c.args.line.now h c.requires said.0 said.1 c.in_ok-keep.ensures.ok w.matches-is
      | in_default w ↦
          let said = rw w.in_default.is at c.in_ok-plan_line.ensures in
          keeps_step before c.args.self.now _ _ c.args.line.now h c.requires said.0 said.1 c.in_ok-keep.ensures.ok (w.matches-is ∙ sym (false_from_ne_true _ c.requires))
    ]

use Rattle.sas_plan_file.proofs.Imports.{◌∙◌, ap, sym, subst, IsTrue, [], ◌∷◌, ◌++◌, refl, KeepsLines, none_accepted, accepted}
use Rattle.sas_plan_file.proofs.PlanAhead.{next_step, step_ahead_taken, bytes_of_line}
use Rattle.sas_plan_file.proofs.PlanKeeping.{keeps_step}
use Rattle.sas_plan_file.proofs.plan_text.PlanTextMachine.accept_ahead.Goals as goal

pub loop-name-init : goal.loop-name-init
loop-name-init g c = record { accepted = none_accepted KeepsLines c.args.self.now c.args.bytes.now; going_on = c.requires }

pub loop-name-preserved : goal.loop-name-preserved
loop-name-preserved g c =
    let l = c.loop-name in
    let stands = c.in-Some.ensures in
    let v = l.invariant in
    record {
      accepted = next_step l.rest.now c.in-Some.name.now c.in-Some.behind.now stands KeepsLines c.args.self.now c.args.bytes.now l.self l.lines v.accepted _
          (λ before h. keeps_step before l.self _ c.in-Some.name.now _ h v.going_on (step_ahead_taken _ _ _ stands) refl
          (c.in_ok-keep_first.ensures.ok ∙ ap (λ x. l.self.text.items ++ (x ++ 10 ∷ [])) (bytes_of_line _ _ _ stands).0) c.in_ok-keep_first.ensures.closed);
      going_on = subst (λ x. IsTrue x → ⊥) (sym c.in_ok-keep_first.ensures.closed) v.going_on;
    }

pub returns : goal.returns
returns g c = let l = c.loop-name in accepted KeepsLines c.args.self.now c.args.bytes.now l.self l.lines l.rest.now l.invariant.accepted

-- The step of the fault is made, and the later ones.
use Rattle.sas_plan_reasons.proofs.Imports.{◌≡◌, ◌<◌, ◌≤◌, length, Some, sym, subst, ◌∙◌, NotesAnywayIfAny, step_made}
use Rattle.std.specs.Option.{IfSome}
use Rattle.sas_plan_reasons.proofs.Behind.{follows_there}
use Rattle.sas_plan_reasons.proofs.anyway.follow.Goals as goal

pub returns-clause-noted : goal.returns-clause-noted
returns-clause-noted g c run last =
    let p = c.args.named.now.task.now in
    let plan = c.args.named.now.plan.now in
    let step = c.in-Some.step in
    let is : step_made c.args.fault ≡ Some step = sym c.step_made.ensures ∙ c.in-Some.is in
    let exists = subst (λ made. IfSome made (λ k. (0 < k) × (k ≤ length plan.steps))) is c.requires.exists in
    let before = c.in_ok-anyway.ensures in
    let made = c.go_on_anyway.ensures in
    let (failing, noted, follows) = made.follows in
    let there = before.state ∙ (c.in_ok-copy.ensures ∙ last) in
    subst (λ k. NotesAnywayIfAny p plan run k (Some c.go_on_anyway.new.anyway)) (sym is) (record {
      step = made.step ∙ before.step;
      exists = exists.1;
      state = made.at.state;
      failing = failing;
      noted = noted;
      follows = follows_there p plan run c.in_ok-anyway.anyway.step step c.in_ok-anyway.anyway.state failing c.go_on_anyway.new.anyway.state before.step there follows;
    })

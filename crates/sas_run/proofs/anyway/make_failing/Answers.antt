-- The step stands for the operator that it means, or for the lowest.
use Rattle.sas_run.proofs.Imports.{◌≡◌, ◌-◌, subst, arith, Blocked}
use Rattle.sas_run.proofs.anyway.make_failing.Goals as goal

pub lowest-operator-requires-clause-some : goal.lowest-operator-requires-clause-some
lowest-operator-requires-clause-some g c =
    let s = c.args.state.now in
    let (before, lt, fails) = rw c.in-NotApplicable.is at c.requires.fails in
    let same : before ≡ c.in-NotApplicable.step - 1 = omega (arith, fails.0) in
    (s, subst (λ k. g.C.Chooser.means c.args.chooser.now c.args.layered.now k s Blocked) same fails.1)

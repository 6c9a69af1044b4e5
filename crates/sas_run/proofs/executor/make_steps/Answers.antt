-- One more step succeeds or fails.
use Rattle.sas_run.proofs.Imports.{ℕ, List, [], ◌∷◌, ◌++◌, ◌<◌, length-append, arith, start_of}
use Rattle.std.proofs.lemmas.Option.{IfSome_then}
use Rattle.sas_run.proofs.GoingByNumbers.{makes_one_more}
use Rattle.sas_run.proofs.Observing.{told_next, lists_last}
use Rattle.sas_run.proofs.executor.make_steps.Goals as goal

pub observe-requires : goal.observe-requires
observe-requires g c =
    let inv = c.loop-before.invariant in
    let p = c.args.layered.now in
    let start : List ℕ = start_of p (g.C.Chooser.starts c.args.chooser.now) in
    let within : c.loop-before.before < g.C.Chooser.count c.args.chooser.now = omega (arith, c.loop-before-test.true, c.steps-before-end.ensures) in
    record {
      told = (
        start,
        c.args.observer.now,
        inv.operators,
        told_next p start (g.C.Chooser.means c.args.chooser.now p) inv.at.prepared.layered _ _ _ _ _ _ _ _ c.requires.observer inv.makes inv.one_each within inv.sees (rw c.in-Ok.is at c.make_plan_step.ensures.makes),
        IfSome_then c.changed_by-derived.result c.changed_by-derived.ensures (λ listed has. lists_last p start inv.at.prepared.layered inv.operators c.loop-before.state c.make_plan_step.new.state listed.now
            inv.makes.through ((rw c.in-Ok.is at c.make_plan_step.ensures.changed) listed.now has)),
      );
    }

pub loop-before-preserved : goal.loop-before-preserved
loop-before-preserved g c =
    let inv = c.loop-before.invariant in
    let p = c.args.layered.now in
    let start : List ℕ = start_of p (g.C.Chooser.starts c.args.chooser.now) in
    let Means = g.C.Chooser.means c.args.chooser.now p in
    let within : c.loop-before.before < g.C.Chooser.count c.args.chooser.now = omega (arith, c.loop-before-test.true, c.steps-before-end.ensures) in
    let operator = c.in-Ok.operator in
    let made = rw c.in-Ok.is at c.make_plan_step.ensures.makes in
    record {
      at = c.make_plan_step.ensures.at;
      operators = inv.operators ++ operator ∷ [];
      makes = makes_one_more p inv.at.prepared.layered start Means inv.operators c.loop-before.state inv.makes operator c.make_plan_step.new.state made.1 (rw inv.one_each made.0) made.2;
      one_each = (let len = length-append inv.operators (operator ∷ []) in let one = inv.one_each in omega arith);
      sees = c.observe.ensures.sees start c.args.observer.now inv.operators (told_next p start Means inv.at.prepared.layered _ _ _ _ _ _ _ _ c.requires.observer inv.makes inv.one_each within inv.sees made);
    }

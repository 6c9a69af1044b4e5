-- One more step is made.
use Rattle.sas_run.proofs.Imports.{◌≡◌, ◌+◌, ◌∷◌, ◌++◌, [], suc, ap, ◌∙◌, arith, length-append, Anyway}
use Rattle.sas_run.proofs.GoingAnyway.{fails_more, succeeds_more}
use Rattle.sas_run.proofs.anyway.go_on_anyway.Goals as goal

pub loop-before-preserved : goal.loop-before-preserved
loop-before-preserved g c =
    let p = c.args.layered.now in
    let inv = c.loop-before.invariant in
    let now = c.make_anyway-in-loop-before.ensures in
    let step = c.loop-before.before in
    let rest = c.note.ensures.rest in
    let state : c.note.new.self.state ≡ c.make_anyway-in-loop-before.new.state = ap (λ (anyway : Anyway). anyway.state) rest in
    let noted = c.note.ensures.noted inv.failing (record { count = inv.noted.count; first = inv.noted.first; room = inv.noted.room }) in
    rw state record {
      at = now.at;
      step = ap (λ (anyway : Anyway). anyway.step) rest ∙ inv.step;
      there = inv.there;
      made = inv.made;
      n = suc inv.n;
      number = omega (arith, inv.number);
      failing = inv.failing ++ (step + 1) ∷ [];
      later = fails_more p (g.C.Chooser.means c.args.chooser.now p) (g.C.Chooser.lowest c.args.chooser.now p) c.args.anyway.now.step inv.there inv.n step inv.number inv.failing
          c.loop-before.anyway.state c.make_anyway-in-loop-before.new.state inv.later now.made (now.no c.if-make_anyway.false);
      noted = record { count = noted.count; first = noted.first; room = noted.room };
      few = omega (arith, noted.count, inv.noted.count, inv.few, length-append inv.failing ((step + 1) ∷ []));
    }

pub loop-before-preserved-then-make_anyway : goal.loop-before-preserved-then-make_anyway
loop-before-preserved-then-make_anyway g c =
    let p = c.args.layered.now in
    let inv = c.loop-before.invariant in
    let now = c.make_anyway-in-loop-before.ensures in
    record {
      at = now.at;
      step = inv.step;
      there = inv.there;
      made = inv.made;
      n = suc inv.n;
      number = omega (arith, inv.number);
      failing = inv.failing;
      later = succeeds_more p (g.C.Chooser.means c.args.chooser.now p) (g.C.Chooser.lowest c.args.chooser.now p) c.args.anyway.now.step inv.there inv.n c.loop-before.before inv.number inv.failing
          c.loop-before.anyway.state c.make_anyway-in-loop-before.new.state inv.later now.made (now.yes c.if-make_anyway.true);
      noted = record { count = inv.noted.count; first = inv.noted.first; room = inv.noted.room };
      few = omega (arith, inv.few);
    }

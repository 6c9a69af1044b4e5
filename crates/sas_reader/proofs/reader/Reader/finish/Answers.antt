use Rattle.sas_reader.proofs.Imports.{arith, sym, ◌≡◌, ◌∙◌, Some, None, Fault}
use Rattle.sas_reader.proofs.Standing.{accepted_of}
use Rattle.sas_reader.proofs.Ending.{refused_at_end}
use Rattle.sas_reader.proofs.reader.Reader.finish.Goals as goal

of_some : (f g : Fault) → Some f ≡ Some g → f ≡ g
of_some f g e = cc

pub returns : goal.returns
returns g c =
    let r = c.args.self in
    let none = c.in-None.ensures.none in
    record {
      at_end = none.0;
      reached = λ bytes s. let h = accepted_of g.M.Machine.behavior r bytes none.1 s in (h.reached, omega (arith, h.taken, r.within));
      refused = tt;
      kept = λ f e. let x : None ≡ Some f = sym none.1 ∙ e in absurd cc;
    }

pub returns-in-Some : goal.returns-in-Some
returns-in-Some g c =
    let f = c.in-Some.fault in
    let end = c.in-Some.ensures in
    let found = c.found_at_end-found.ensures in
    record {
      at_end = tt;
      reached = tt;
      refused = refused_at_end g.M.Machine.behavior c.args.self f c.found_at_end-found.result (λ g e. (of_some f g (end.kept g e), found.kept g e)) end.early found.early;
      kept = λ g e. of_some f g (end.kept g e);
    }

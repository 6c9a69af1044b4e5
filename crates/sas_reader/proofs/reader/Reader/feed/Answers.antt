use Rattle.sas_reader.proofs.Imports.{ℕ, ◌+◌, ◌≡◌, List, [], ◌++◌, refl, sym, ap, subst, ◌∙◌, arith, take_all, Some, None, Fault, answer, Accepted, FaultIn}
use Rattle.sas_reader.proofs.Standing.{accepted_of, stands_accepted, stands_fault, stands_more}
use Rattle.sas_reader.proofs.Pieces.{fault_behind}
use Rattle.sas_reader.proofs.reader.Reader.feed.Goals as goal

pub returns-in-Some : goal.returns-in-Some
returns-in-Some g c = record {
  answer = sym (ap answer c.in-Some.is);
  kept = λ f e. e;
  kind = λ none. let x : None ≡ Some c.in-Some.fault = sym none ∙ c.in-Some.is in absurd cc;
  memory = λ none. let x : None ≡ Some c.in-Some.fault = sym none ∙ c.in-Some.is in absurd cc;
  count = tt;
  limit = refl;
  stands = λ bytes s. stands_more g.M.Machine.behavior c.args.self.now c.in-Some.fault bytes c.args.piece.now c.in-Some.is s;
}

pub returns-in-Err : goal.returns-in-Err
returns-in-Err g c =
    let step = c.in-Err.ensures.advances in
    let none : c.args.self.now.fault ≡ None = c.in_default.is in
    let next = c.take_all.new.self in
    let f : Fault = record { line = next.lines + 1; kind = c.in-Err.kind } in
    record {
      answer = refl;
      kept = λ g e. let x : None ≡ Some g = sym none ∙ e in absurd cc;
      kind = λ e. step.stopped.kind;
      memory = λ e is bytes s. step.stopped.memory is bytes (accepted_of g.M.Machine.behavior c.args.self.now bytes none s);
      count = tt;
      limit = step.limit;
      stands = λ bytes s.
          stands_fault g.M.Machine.behavior _ _ (bytes ++ c.args.piece.now) refl (λ ne.
          subst (λ (l : ℕ). FaultIn g.M.Machine.behavior l (bytes ++ c.args.piece.now) f next.machine next.found) (sym step.limit)
          (fault_behind g.M.Machine.behavior c.args.self.now.limit [] (bytes ++ c.args.piece.now) bytes c.args.piece.now f next.machine next.found refl
          (step.stopped.fault ne bytes (accepted_of g.M.Machine.behavior c.args.self.now bytes none s))));
    }

pub returns-in-Ok : goal.returns-in-Ok
returns-in-Ok g c =
    let step = c.in-Ok.ensures.advances in
    let all = c.in-Ok.ensures.all in
    let none : c.args.self.now.fault ≡ None = c.in_default.is in
    let still : c.take_all.new.self.fault ≡ None = step.fault ∙ none in
    record {
      answer = sym (ap answer still);
      kept = λ f e. let x : None ≡ Some f = sym none ∙ e in absurd cc;
      kind = tt;
      memory = tt;
      count = omega (arith, step.took.count, all);
      limit = step.limit;
      stands = λ bytes s.
          stands_accepted g.M.Machine.behavior c.take_all.new.self (bytes ++ c.args.piece.now) still
          (subst (λ (x : List ℕ). Accepted g.M.Machine.behavior c.take_all.new.self (bytes ++ x)) (take_all _ c.args.piece.now (omega (arith, all)))
          (step.took.accepted bytes (accepted_of g.M.Machine.behavior c.args.self.now bytes none s)));
    }

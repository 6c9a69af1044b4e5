use Rattle.std.proofs.lemmas.Grind.{common_steps}
use Rattle.sas_reader.proofs.Imports.{◌∙◌, sym, subst, ℕ, List, refl, arith, IsFoundOf}
use Rattle.sas_reader.proofs.Advancing.{takes, stops, accepted_part, accepted_line, stopped_at, takes_some}
use Rattle.sas_reader.proofs.Pieces.{takes_bound}
use Rattle.sas_reader.proofs.reader.Reader.take_cut_line.Goals as goal

pub returns-then-not-fed-clause-advances : goal.returns-then-not-fed-clause-advances
returns-then-not-fed-clause-advances g c =
    let fed = c.in_ok-fed.ensures in
    takes g.M.Machine.behavior _ _ _ _ refl refl (record {
      within = takes_bound _ _ _ fed.taken;
      count = refl;
      accepted = λ bytes h. accepted_part g.M.Machine.behavior c.args.self.now _ bytes c.args.piece.now c.in_ok-fed.fed.taken c.in_ok-fed.fed.complete h c.requires.going c.if-not-fed.true
          (record { taken = fed.taken; lines = fed.lines; rest = fed.pending }) refl refl refl;
    })

pub returns-in-Err-clause-advances : goal.returns-in-Err-clause-advances
returns-in-Err-clause-advances g c =
    let fed = c.in_ok-fed.ensures in
    stops g.M.Machine.behavior _ _ _ _ refl refl (stopped_at g.M.Machine.behavior c.args.self.now _ c.args.piece.now c.line.result.now c.in_ok-fed.fed.taken c.in_ok-fed.fed.complete c.feed.new.self _ c.requires.some c.requires.going c.if-not-fed.false
    (record { taken = fed.taken; lines = fed.lines; rest = fed.pending }) c.line.ensures c.requires.room c.in-Err.ensures.kind c.in-Err.ensures.rejects c.in-Err.ensures.stopped
    (subst (λ (x : List ℕ). IsFoundOf c.in-Err.kind x c.of-self.result) (c.line-in-Err.ensures ∙ sym c.line.ensures) c.of-self.ensures) refl)

pub returns-in-Ok-clause-advances : goal.returns-in-Ok-clause-advances
returns-in-Ok-clause-advances g c =
    let fed = c.in_ok-fed.ensures in
    takes g.M.Machine.behavior _ _ _ _ refl refl (record {
      within = takes_bound _ _ _ fed.taken;
      count = refl;
      accepted = λ bytes h. accepted_line g.M.Machine.behavior c.args.self.now _ bytes c.args.piece.now c.line.result.now c.in_ok-fed.fed.taken c.in_ok-fed.fed.complete c.accept.new.self c.feed.new.self h c.if-not-fed.false
          (record { taken = fed.taken; lines = fed.lines; rest = fed.pending }) fed.complete c.line.ensures c.in-Ok.ensures.led refl refl refl refl;
    })

pub returns-in_err-fed-clause-advances : goal.returns-in_err-fed-clause-advances
returns-in_err-fed-clause-advances g c = grind (arith, common_steps)

pub overflow_add-self : goal.overflow_add-self
overflow_add-self g c = grind (arith, common_steps, takes_bound)

pub invariant_of-self-then-not-fed : goal.invariant_of-self-then-not-fed
invariant_of-self-then-not-fed g c = grind (arith, common_steps, takes_bound)

pub overflow_add-self-in-Ok-2 : goal.overflow_add-self-in-Ok-2
overflow_add-self-in-Ok-2 g c = grind (arith, common_steps, takes_bound)

pub invariant_of-self-in-Ok : goal.invariant_of-self-in-Ok
invariant_of-self-in-Ok g c = grind (arith, common_steps, takes_bound, takes_some)

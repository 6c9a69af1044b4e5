use Rattle.std.proofs.lemmas.Grind.{common_steps}
use Rattle.sas_reader.proofs.Imports.{◌+◌, refl, ap, sym, arith, false≢true}
use Rattle.sas_reader.proofs.Advancing.{takes, took_none, took_lines, front_few}
use Rattle.sas_reader.proofs.Tested.{memory_is}
use Rattle.sas_reader.proofs.reader.Reader.take_front.Goals as goal

pub overflow_add-self : goal.overflow_add-self
overflow_add-self g c = grind (arith, common_steps, front_few)

pub invariant_of-self-2 : goal.invariant_of-self-2
invariant_of-self-2 g c = grind (arith, common_steps, front_few)

pub returns-clause-advances : goal.returns-clause-advances
returns-clause-advances g c =
    let found = c.in_ok-front.ensures.took (omega (arith, c.if-front-eq0.false)) in
    takes g.M.Machine.behavior _ _ _ _ refl refl (took_lines g.M.Machine.behavior c.args.self.now _ c.args.piece.now found.0 c.in_ok-front.front.bytes c.requires.whole found.1.stand found.2 refl (ap (λ n. c.args.self.now.lines + n) (sym found.1.many)) refl)

pub overflow_add-self-2 : goal.overflow_add-self-2
overflow_add-self-2 g c = grind (arith, common_steps)

pub returns-then-has_ended-clause-advances : goal.returns-then-has_ended-clause-advances
returns-then-has_ended-clause-advances g c = took_none g.M.Machine.behavior c.args.self.now c.args.piece.now

pub returns-in_err-front-clause-advances : goal.returns-in_err-front-clause-advances
returns-in_err-front-clause-advances g c = grind (arith, common_steps, memory_is, false≢true)

pub returns-then-front-eq0-clause-advances : goal.returns-then-front-eq0-clause-advances
returns-then-front-eq0-clause-advances g c = grind (arith, common_steps)

use Rattle.std.proofs.lemmas.Grind.{common_steps}
use Rattle.sas_reader.proofs.Imports.{◌≡◌, ap, rules, Err, ◌∙◌, arith, Progress}
use Rattle.sas_reader.proofs.Advancing.{took_none, goes_on, stops_behind, rest_is}
use Rattle.sas_reader.proofs.reader.Reader.take_fronts_ended.Goals as goal

pub loop-at-init : goal.loop-at-init
loop-at-init g c = record {
  took = took_none g.M.Machine.behavior c.args.self.now c.args.within.now;
  room = c.requires.room;
  whole = c.requires.whole;
}

pub take_front-requires-clause-room : goal.take_front-requires-clause-room
take_front-requires-clause-room g c = grind (arith, common_steps, rest_is)

pub take_front-requires-clause-some : goal.take_front-requires-clause-some
take_front-requires-clause-some g c = grind (arith, common_steps, rest_is)

pub overflow_add-at : goal.overflow_add-at
overflow_add-at g c = grind (arith, common_steps, rest_is)

pub returns-in_err-taken : goal.returns-in_err-taken
returns-in_err-taken g c =
    let same : c.from_residual.result ≡ Err c.in_err-taken.field-0.0 = search rules in
    stops_behind g.M.Machine.behavior c.args.self.now c.loop-at.self _ c.args.within.now c.loop-at.at _ _ same c.loop-at.invariant.took c.in_err-taken.ensures.advances

pub loop-at-preserved : goal.loop-at-preserved
loop-at-preserved g c =
    let v = c.loop-at.invariant in
    record {
      took = goes_on g.M.Machine.behavior c.args.self.now c.loop-at.self c.take_front.new.self c.args.within.now c.loop-at.at c.in_ok-taken.taken v.took c.in_ok-taken.ensures.advances;
      room = v.room;
      whole = ap (λ (p : Progress). p.pending) c.in_ok-taken.ensures.pending ∙ v.whole;
    }

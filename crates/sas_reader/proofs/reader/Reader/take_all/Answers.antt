use Rattle.sas_reader.proofs.Imports.{◌≡◌, rules, Err}
use Rattle.sas_reader.proofs.Advancing.{goes_on, stops_behind, took_none}
use Rattle.sas_reader.proofs.reader.Reader.take_all.Goals as goal

pub loop-at-init : goal.loop-at-init
loop-at-init g c = took_none g.M.Machine.behavior c.args.self.now c.args.piece.now

pub returns-in_err-at-clause-advances : goal.returns-in_err-at-clause-advances
returns-in_err-at-clause-advances g c =
    let same : c.from_residual.result ≡ Err c.in_err-at.field-0.0 = search rules in
    stops_behind g.M.Machine.behavior c.args.self.now c.loop-at.self c.take_next.new.self c.args.piece.now c.loop-at.at _ _ same c.loop-at.invariant c.in_err-at.ensures.advances

pub loop-at-preserved : goal.loop-at-preserved
loop-at-preserved g c = goes_on g.M.Machine.behavior c.args.self.now c.loop-at.self c.take_next.new.self c.args.piece.now c.loop-at.at c.in_ok-at.field-0 c.loop-at.invariant c.in_ok-at.ensures.advances

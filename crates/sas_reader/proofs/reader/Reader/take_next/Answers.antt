use Rattle.sas_reader.proofs.Imports.{◌≡◌, rules, Err}
use Rattle.sas_reader.proofs.Advancing.{goes_on, stops_behind}
use Rattle.sas_reader.proofs.reader.Reader.take_next.Goals as goal

pub returns-in_err-take_line-clause-advances : goal.returns-in_err-take_line-clause-advances
returns-in_err-take_line-clause-advances g c =
    let same : c.from_residual-in_err-take_line.result ≡ Err c.in_err-take_line.field-0.0 = search rules in
    stops_behind g.M.Machine.behavior c.args.self.now c.take_fronts.new.self c.take_line.new.self c.args.piece.now c.in_ok-ahead.ahead _ _ same c.in_ok-ahead.ensures c.in_err-take_line.ensures.advances

pub returns-clause-advances : goal.returns-clause-advances
returns-clause-advances g c = goes_on g.M.Machine.behavior c.args.self.now c.take_fronts.new.self c.take_line.new.self c.args.piece.now c.in_ok-ahead.ahead c.in_ok-take_line.field-0 c.in_ok-ahead.ensures c.in_ok-take_line.ensures.advances

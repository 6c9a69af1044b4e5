use Rattle.sas_answers.proofs.Imports.{◌≡◌, [], err_from_is_err_and}
use Rattle.sas_answers.proofs.Putting.{breaks_with_more, puts_then_either}
use Rattle.sas_answers.proofs.pieces.Pieces.push.Goals as goal

pub returns-in_err-flush : goal.returns-in_err-flush
returns-in_err-flush g c =
    let p = err_from_is_err_and c.from_residual.result c.from_residual.ensures.1 in
    let kept : c.hold.new.self ≡ c.args.self.now = c.hold.ensures.no c.if-hold.false in
    rw (p.1, p.2) (record { puts = breaks_with_more _ _ _ c.flush.new.self [] _ _ (rw kept at c.in_err-flush.ensures.adds.puts); note = c.in_err-flush.ensures.adds.note })

pub returns : goal.returns
returns g c =
    let kept : c.hold.new.self ≡ c.args.self.now = c.hold.ensures.no c.if-hold.false in
    let empty : c.hold-2.new.self ≡ c.flush.new.self = c.hold-2.ensures.no c.if-hold-2.false in
    record { puts = puts_then_either _ _ _ _ [] _ _ _ _ (rw kept at c.in_ok-flush.ensures.adds.puts) (rw empty at c.pass.ensures.puts); note = c.pass.ensures.note }

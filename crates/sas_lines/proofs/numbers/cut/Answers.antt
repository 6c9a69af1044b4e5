use Rattle.sas_lines.proofs.Imports.{◌+◌, take, drop, ap, ◌∙◌, rules, take_rest, StandsFirst, segments}
use Rattle.sas_lines.proofs.Separated.{segments-first, segments-only}
use Rattle.sas_lines.proofs.Found.{Without-index, Without-take, in_two_at}
use Rattle.sas_lines.proofs.numbers.cut.Goals as goal

pub returns-in-Some : goal.returns-in-Some
returns-in-Some c =
    let line = c.args.line.now in
    let place = c.in-Some.at in
    let f : StandsFirst 32 line place = record { within = search rules; before = Without-take 32 line place (search rules); here = search rules } in
    rw (take_rest line (place + 1)) (ap (segments 32) (in_two_at 32 line place f) ∙ segments-first 32 (take place line) (drop (place + 1) line) f.before)

pub returns-in-None : goal.returns-in-None
returns-in-None c = segments-only 32 c.args.line.now (Without-index 32 c.args.line.now (search rules))

use Rattle.sas_lines.proofs.Imports.{ℕ, ◌<◌, ◌≤◌, ◌-◌, List, length, take, drop, subst, arith, take-take, length-take, length-drop, length-take-le, Appends}
use Rattle.sas_lines.proofs.Sent.{sent_more}
use Rattle.sas_lines.proofs.devices.write_lines.Goals as goal

pub returns-in-Err-clause-short : goal.returns-in-Err-clause-short
returns-in-Err-clause-short g c =
    let bytes = c.args.bytes.now in
    let written = c.loop-written.written in
    let count = c.lines_at_once-count.result in
    let more = c.in-Err.short.written in
    let rest = take (length bytes - written) (drop written bytes) in
    let within : count ≤ length rest = c.lines_at_once-count.ensures.within in
    let (less, sent) = c.in-Err.ensures.short in
    let few = length-take-le count rest within in (
      omega (arith, less, few, within, length-take (length bytes - written) (drop written bytes), length-drop written bytes, c.loop-written.invariant.within),
      sent_more _ _ _ bytes written more c.loop-written.invariant.sent (subst (Appends (g.W.Write.contents c.loop-written.out.device) (g.W.Write.contents c.write_out.new.out.device)) (take-take more count rest (omega (arith, less, few))) sent),
    )

use Rattle.sas_answers.proofs.Imports.{◌≡◌, sym, ◌∙◌, refl, subst, Option, Some, Appends, Output, EndsCounting, PushedBy}
use Rattle.sas_answers.proofs.Sent.{all_sent, first_counted}
use Rattle.sas_answers.proofs.Pushed.{puts_so_far, finish_puts, finish_breaks}
use Rattle.sas_answers.proofs.sink.Sink.finish.Goals as goal
use Rattle.sas_answers.proofs.sink.Sink.finish.Goals.{in-Ok, in-Err}

pub returns-then-failed-clause-ends : goal.returns-then-failed-clause-ends
returns-then-failed-clause-ends g c start text pushed =
    let sink = c.args.self in
    let broken = subst (PushedBy start (g.W.Write.contents sink.out.now.device) sink.pieces.now sink.short text) (sym c.failed.ensures ∙ c.if-failed.true) pushed in
    let (number, counts, less, sent) = first_counted _ _ _ _ _ _ refl refl broken in
    (number, counts, (_, refl, less, sent))

pub returns-clause-ends : goal.returns-clause-ends
returns-clause-ends g c start text pushed =
    let puts = puts_so_far g.W.Write.contents c.args.self (sym c.failed.ensures ∙ c.if-failed.false) start text pushed in
    let out = λ (output : Option Output). output ≡ Some (record { text = text; status = c.args.self.status }) in
    let sent = Appends start (g.W.Write.contents c.flush.new.out.device) in
    elim c.match-flush.branch [
      | in-Ok w ↦ subst (EndsCounting out sent) (sym w.result-is) (_, refl, refl, all_sent _ _ _ _ _ _ refl w.in-Ok.ensures.empty refl (finish_puts _ _ _ _ _ _ _ puts w.in-Ok.ensures.adds.puts))
      | in-Err w ↦ subst (EndsCounting out sent) (sym w.result-is)
          (let (number, counts, less, sent) = first_counted _ _ _ _ _ _ refl refl (finish_breaks _ _ _ _ _ _ _ puts w.in-Err.ensures.adds.puts) in
          (number, counts, (_, refl, less, sent)))
    ]

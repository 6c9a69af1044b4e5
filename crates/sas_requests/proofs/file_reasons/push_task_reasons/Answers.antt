use Rattle.std.proofs.lemmas.Result.{on_ok_weaker}
use Rattle.sas_requests.proofs.Imports.{List, [], ◌∷◌, ◌++◌, ap, ◌∙◌, append_assoc, Option, FileLine, At, Expected, NumberMustBe, Counted, Found, Hinted, Hint, line_if, file_text, kept_bytes}
use Rattle.sas_requests.proofs.FileTexts.{text_then, text_behind, text_of_one}
use Rattle.sas_requests.proofs.file_reasons.push_task_reasons.Goals as goal

pub returns : goal.returns
returns c =
    let r = c.args.refused.now in
    let at = At (r.mark).at in
    let due = Expected (r.mark).due in
    let word = line_if NumberMustBe r.word in
    let count = line_if Counted r.count in
    let found = Found (r.fault).kind (kept_bytes r.found) in
    let hint = line_if Hinted c.hint_for-hint.result in
    let old = c.args.out.now.items in
    let a = c.push_location.new.out.items in
    let b = c.push_due.new.out.items in
    let d = c.push_wrong_word.new.out.items in
    let e = c.push_count.new.out.items in
    let f = c.push_found.new.out.items in
    let two = text_then old a b (at ∷ []) due (text_of_one old a at c.in_ok-push_location.ensures) c.in_ok-push_due.ensures in
    let three = text_behind old b d (at ∷ due ∷ []) word two c.in_ok-push_wrong_word.ensures in
    let four = text_behind old d e (at ∷ due ∷ word) count three c.in_ok-push_count.ensures in
    let five = text_then old e f (at ∷ due ∷ (word ++ count)) found four (rw c.bytes.ensures at c.in_ok-push_found.ensures) in
    let in_order = append_assoc (word ++ count) (found ∷ []) hint ∙ ap (λ (h : Option Hint). (word ++ count) ++ found ∷ line_if Hinted h) c.hint_for-hint.ensures in
    on_ok_weaker c.push_hint.result
    (λ hinted. text_behind old f c.push_hint.new.out.items (at ∷ due ∷ ((word ++ count) ++ found ∷ [])) hint five hinted ∙ ap (λ (l : List FileLine). old ++ file_text (at ∷ due ∷ l)) in_order)
    c.push_hint.ensures

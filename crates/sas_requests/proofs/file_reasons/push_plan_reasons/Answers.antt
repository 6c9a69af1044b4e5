use Rattle.std.proofs.lemmas.Result.{on_ok_weaker}
use Rattle.sas_requests.proofs.Imports.{◌++◌, [], ◌∷◌, ap, ◌∙◌, Option, ExpectedInPlan, Found, Hinted, Hint, line_if, file_text, kept_bytes}
use Rattle.sas_requests.proofs.FileTexts.{text_then, text_behind, text_of_one}
use Rattle.sas_requests.proofs.file_reasons.push_plan_reasons.Goals as goal

pub returns : goal.returns
returns c =
    let r = c.args.refused.now in
    let due = ExpectedInPlan (r.fault).kind in
    let found = Found (r.fault).kind (kept_bytes r.found) in
    let old = c.args.out.now.items in
    let first = c.push_plan_due.new.out.items in
    let second = c.push_found.new.out.items in
    let said = rw c.bytes.ensures at c.in_ok-push_found.ensures in
    let two = text_then old first second (due ∷ []) found (text_of_one old first due c.in_ok-push_plan_due.ensures) said in
    on_ok_weaker c.push_hint.result
    (λ hinted. text_behind old second c.push_hint.new.out.items (due ∷ found ∷ []) (line_if Hinted c.hint_for-hint.result) two hinted ∙ ap (λ (h : Option Hint). old ++ file_text (due ∷ found ∷ line_if Hinted h)) c.hint_for-hint.ensures)
    c.push_hint.ensures

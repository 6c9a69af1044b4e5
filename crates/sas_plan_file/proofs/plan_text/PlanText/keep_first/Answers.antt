use Rattle.sas_plan_file.proofs.Imports.{◌≡◌, ◌<◌, ◌+◌, ◌-◌, ℕ, List, arith, length-append, length-take-le, [], ◌∷◌, ◌++◌, length, take, set, sym, ap, ◌∙◌, append_assoc, take_more, set_at}
use Rattle.sas_plan_file.proofs.plan_text.PlanText.keep_first.Goals as goal

-- the byte after the line becomes LF
ended : (text bytes : List ℕ) (count last : ℕ) → count < length bytes → length (text ++ take count bytes) ≡ last → set (text ++ take (count + 1) bytes) last 10 ≡ text ++ (take count bytes ++ 10 ∷ [])
ended text bytes count last within is =
    let line = take count bytes in
    ap (λ (x : List ℕ). set (text ++ x) last 10) (take_more bytes count 0 within) ∙ ap (λ (x : List ℕ). set x last 10) (sym (append_assoc text line _)) ∙ set_at (text ++ line) _ [] 10 last is ∙ append_assoc text line (10 ∷ [])

pub returns-clause-ok : goal.returns-clause-ok
returns-clause-ok c =
    let text = c.args.self.now.text.items in
    let bytes = c.args.bytes.now in
    let count = c.args.count in
    let held = c.extend_from_slice-2.new.self in
    let items = c.in_ok-extend_from_slice-2.ensures.items in
    let long : length (text ++ take count bytes) ≡ c.len-last.result - 1 = omega (arith, c.len-last.ensures, held.ok.0, ap length items, length-append text (take count bytes), length-append text (take (count + 1) bytes), length-take-le count bytes (omega (arith, c.requires)), length-take-le (count + 1) bytes (omega (arith, c.requires))) in
    ap (λ (x : List ℕ). set x (c.len-last.result - 1) 10) items ∙ ended text bytes count (c.len-last.result - 1) c.requires long

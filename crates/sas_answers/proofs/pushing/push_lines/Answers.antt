use Rattle.sas_answers.proofs.Imports.{ℕ, List, [], ◌∷◌, ◌++◌, flat_map, take_all, flat_map-map, arith, sym, ap, ◌∙◌, subst, Pushes, Line, Step, line_bytes, steps_of}
use Rattle.sas_answers.proofs.Pushed.{pushes_item}
use Rattle.sas_answers.proofs.pushing.push_lines.Goals as goal

abbrev no_line : Line
no_line = Step 0

pub loop-line-preserved : goal.loop-line-preserved
loop-line-preserved g c =
    let named = c.args.named.now in
    pushes_item _ (λ line. line_bytes named.task.now (steps_of named.plan) line ++ 10 ∷ []) _ _ no_line _ _ _ c.loop-line-test.true c.loop-line.invariant c.push_reason.ensures

pub returns : goal.returns
returns g c =
    let named = c.args.named.now in
    let ended = flat_map-map (λ (line : List ℕ). line ++ 10 ∷ []) (line_bytes named.task.now (steps_of named.plan)) c.args.lines.now in
    subst (Pushes g.W.Write.contents _ _) (ap (flat_map _) (take_all c.loop-line.line-index c.args.lines.now (omega (arith, c.loop-line-test.false))) ∙ sym ended) c.loop-line.invariant

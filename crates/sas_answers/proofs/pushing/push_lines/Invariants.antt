use Rattle.sas_answers.proofs.Imports.{[], ◌∷◌, ◌++◌, take, flat_map, Pushes, line_bytes, steps_of}
use Rattle.sas_answers.proofs.pushing.push_lines.Given as goal

-- the lines so far were pushed
abbrev pub invariant-loop-line : goal.invariant-loop-line
invariant-loop-line g l = Pushes g.W.Write.contents l.fn.sink l.sink
    (flat_map (λ line. line_bytes l.named.task.now (steps_of l.named.plan) line ++ 10 ∷ []) (take l.line-index l.lines))

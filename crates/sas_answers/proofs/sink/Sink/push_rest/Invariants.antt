use Rattle.sas_answers.proofs.Imports.{take, flat_map, Pushes, behind_space}
use Rattle.sas_answers.proofs.sink.Sink.push_rest.Given as goal

-- the words so far were pushed
abbrev pub invariant-loop-word : goal.invariant-loop-word
invariant-loop-word g l = Pushes g.W.Write.contents l.fn.self l.self (flat_map behind_space (take l.word-index l.words))

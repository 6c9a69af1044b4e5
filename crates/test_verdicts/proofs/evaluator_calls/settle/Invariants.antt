use Rattle.test_verdicts.proofs.evaluator_calls.settle.Given as goal

-- the evaluator is still ready
abbrev pub invariant-loop-words : goal.invariant-loop-words
invariant-loop-words g l = g.E.Settle.ready l.evaluator l.layered

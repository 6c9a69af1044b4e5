use Rattle.sas_text.proofs.Imports.{◌≡◌, ◌++◌, take, flat_map, fact_words, spaced}
use Rattle.sas_text.proofs.task_writer.encode_conditions.Given as goal

-- the words of the facts so far
abbrev pub invariant-loop-fact : goal.invariant-loop-fact
invariant-loop-fact l = l.out.items ≡ l.fn.out.items ++ spaced (flat_map fact_words (take l.fact-index l.fact-items))

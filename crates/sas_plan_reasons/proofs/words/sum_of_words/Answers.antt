-- At the end it is the sum of all bytes.
use Rattle.std.proofs.Common.{◌∙◌, ap, sym, arith, sum_by, ℕ, List}
use Rattle.std.proofs.lemmas.List.{take_all}
use Rattle.sas_plan_reasons.proofs.NameWords.{adds, words_sum}
use Rattle.sas_plan_reasons.proofs.words.sum_of_words.Goals as goal

pub returns : goal.returns
returns c = c.loop-byte.invariant.sum ∙ (ap (λ (l : List ℕ). sum_by adds l) (take_all c.loop-byte.byte-index c.args.name.now (omega (arith, c.loop-byte-test.false))) ∙ sym (words_sum c.args.name.now))

-- The parts that aren't empty.
use Rattle.std.proofs.Common.{rules, tests, not, ◌==◌, length, List, ℕ}
use Rattle.std.proofs.lemmas.Iterator.Consumers.{map_from_collect, YieldsList-from_filter}
use Rattle.std.proofs.lemmas.Iterator.Splits.{YieldsList-from_slice_split}
use Rattle.sas_plan_reasons.specs.Words.{separates}
use Rattle.sas_plan_reasons.proofs.words.parts_of.Goals as goal

pub returns : goal.returns
returns c = map_from_collect _ c.collect.ensures.ran
    (YieldsList-from_filter _ (λ (part : List ℕ). not (length part == 0)) (YieldsList-from_slice_split _ separates c.args.text.now (cc) (cc) (cc) (λ x b q k. search (rules, tests))) c.filter.ensures.closure (λ x r q k. search (rules, tests)))

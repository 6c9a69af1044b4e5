-- Each law is proved as a lemma.
use Rattle.sas_plan_reasons.proofs.Imports.{arith}
use Rattle.sas_plan_reasons.proofs.NameWords.{at_separator, no_case}
use Rattle.sas_plan_reasons.proofs.PermutedWords.{permuted_decides}
use Rattle.sas_plan_reasons.proofs.SimilarNames.{some_similar}
use Rattle.sas_plan_reasons.proofs.WhyPlan.{some_may_mean, one_may_mean}
use Rattle.sas_plan_reasons.proofs.laws.name_laws.Goals as goal

pub returns : goal.returns
returns c = search (arith, at_separator, no_case, permuted_decides, some_similar, some_may_mean, one_may_mean)

use Rattle.std.proofs.Common.{◌<◌, ◌∙◌, length, ap, subst, arith}
use Rattle.std.proofs.lemmas.List.{length-map}
use Rattle.std.specs.String.{string_bytes}
use Rattle.sas_tool.specs.Sources.{IsSource}
use Rattle.sas_tool.proofs.Jobbing.{asks_files, asks_many}
use Rattle.sas_tool.proofs.arguments.job_of.Goals as goal

pub returns-in-Some : goal.returns-in-Some
returns-in-Some c = λ name why files accepted is.
    let call = c.args.call in
    let its = asks_files call.request call.why why c.in-Some.question name files c.in-Some.ensures is.name is.flag accepted in
    let few : length call.plans.items < 2 = omega (arith, its.1, ap length is.plans, length-map call.plans.items string_bytes) in (
      its.0,
      subst (λ l. IsSource l c.source_of-task.result) is.task c.source_of-task.ensures,
      subst (λ l. IsSource l c.source_of.result) (c.only_word.ensures few ∙ is.plans) c.source_of.ensures,
    )

pub returns-in-None : goal.returns-in-None
returns-in-None c = λ name why files accepted is.
    let call = c.args.call in
    (asks_many call.request call.why name c.in-None.ensures is.name, is.flag, subst (λ l. IsSource l c.source_of-task.result) is.task c.source_of-task.ensures, is.plans)

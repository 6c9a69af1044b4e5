use Rattle.std.proofs.Common.{◌∙◌, codes}
use Rattle.clap.proofs.WalkLemmas.{one_text-rows}
use Rattle.clap.specs.Words.{found_of}
use Rattle.sas_words.proofs.Readings.{flag_is, plans_are, task_is}
use Rattle.sas_words.proofs.calls.call_named.Goals as goal

pub returns : goal.returns
returns c = λ why files rows.
    let found = found_of c.args.matches.now in
    let name = c.args.name.now in
    let flag = one_text-rows found (codes "why") in
    record {
      name = c.of.ensures rows.known;
      flag = flag_is c.get_flag.result why _ rows.flag (λ e. c.get_flag.ensures.none (flag ∙ e)) (λ e. c.get_flag.ensures.value (flag ∙ e)) (λ e. c.get_flag.ensures.other (flag ∙ e));
      task = task_is name files found c.in_ok-task.task c.in_ok-task.ensures rows.task;
      plans = c.in_ok-words_of.ensures ∙ plans_are name found ∙ rows.plans;
    }

use Rattle.std.proofs.Common.{codes}
use Rattle.sas_words.specs.Grammar.{IsCommand, checks_app, explained, over_task, with_request}
use Rattle.clap.specs.Words.{App}
use Rattle.sas_words.proofs.grammar.grammar.Goals as goal

abbrev mutex_app : App
mutex_app = with_request checks_app (over_task (explained (codes "mutex")))

abbrev show_app : App
show_app = with_request mutex_app (over_task (explained (codes "show")))

abbrev check_app : App
check_app = with_request show_app (over_task (explained (codes "check")))

abbrev print_app : App
print_app = with_request check_app (over_task (explained (codes "print")))

pub returns : goal.returns
returns c =
    let mutex : IsCommand mutex_app c.in_ok-mutex.mutex = c.in_ok-mutex.ensures checks_app _ c.in_ok-checks.ensures c.task_request.ensures in
    let show : IsCommand show_app c.in_ok-show.show = c.in_ok-show.ensures mutex_app _ mutex c.task_request-2.ensures in
    let check : IsCommand check_app c.in_ok-check.check = c.in_ok-check.ensures show_app _ show c.task_request-3.ensures in
    let print : IsCommand print_app c.in_ok-print.print = c.in_ok-print.ensures check_app _ check c.task_request-4.ensures in
    c.add-5.ensures print_app _ print c.steps_request.ensures

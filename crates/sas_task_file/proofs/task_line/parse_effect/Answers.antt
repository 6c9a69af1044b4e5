use Rattle.sas_task_file.proofs.TaskReading.{no_count, no_facts, no_last, more_than_effect, effect_spelled}
use Rattle.sas_task_file.proofs.task_line.parse_effect.Goals as goal

pub returns-in_default-clause-none : goal.returns-in_default-clause-none
returns-in_default-clause-none c = λ e. no_count c.args.line.now _ c.new-parts.ensures c.in_default.ensures.none

pub returns-then-not-branch-clause-none : goal.returns-then-not-branch-clause-none
returns-then-not-branch-clause-none c = λ e.
    no_facts c.args.line.now _ c.new-parts.ensures c.in-Some.count _ c.in-Some.ensures.found (c.in_ok-take_facts.ensures.none c.if-not-branch.true)

pub returns-in_default-take_change-clause-none : goal.returns-in_default-take_change-clause-none
returns-in_default-take_change-clause-none c = λ e.
    no_last c.args.line.now _ c.new-parts.ensures c.in-Some.count _ c.in-Some.ensures.found c.take_facts.new.facts _ (c.in_ok-take_facts.ensures.found c.if-not-branch.false) c.in_default-take_change.ensures.none

pub returns-clause-found : goal.returns-clause-found
returns-clause-found c = λ over.
    let change = c.in-Some-take_change.change in
    effect_spelled c.args.line.now _ c.new-parts.ensures c.in-Some.count _ c.in-Some.ensures.found c.take_facts.new.facts _ (c.in_ok-take_facts.ensures.found c.if-not-branch.false) change.var change.old change.new _ c.in-Some-take_change.ensures.found (c.is_over.ensures.0 over)

pub returns-clause-none : goal.returns-clause-none
returns-clause-none c = λ more.
    let change = c.in-Some-take_change.change in
    more_than_effect c.args.line.now _ c.new-parts.ensures c.in-Some.count _ c.in-Some.ensures.found c.take_facts.new.facts _ (c.in_ok-take_facts.ensures.found c.if-not-branch.false) change.var change.old change.new _ c.in-Some-take_change.ensures.found (λ e. let over = c.is_over.ensures.1 e in cc)

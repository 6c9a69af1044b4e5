use Rattle.sas_task_file.proofs.Imports.{refl, arith}
use Rattle.sas_task_file.proofs.LinesReading.{group_is_ahead, all_appended, one_line, rest_fits}
use Rattle.sas_task_file.proofs.variables_and_groups.read_group.Goals as goal

pub returns-clause-found : goal.returns-clause-found
returns-clause-found g c =
    let facts = rw c.in-Some-2.is at c.in_ok-count.ensures.found in (
      facts.items,
      facts.are,
      group_is_ahead c.args.ranges.now facts.items _ c.in-Some.ensures (all_appended _ _ facts) c.in-Some-read_word.ensures refl (omega (arith, facts.many)),
    )

pub overflow_sub-front : goal.overflow_sub-front
overflow_sub-front g c =
    let facts = rw c.in-Some-2.is at c.in_ok-count.ensures.found in
    omega (arith, rest_fits (one_line c.in-Some.ensures), rest_fits facts.lines, rest_fits (one_line c.in-Some-read_word.ensures))

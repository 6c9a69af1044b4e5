use Rattle.sas_task_file.proofs.Imports.{refl, arith}
use Rattle.sas_task_file.proofs.LinesReading.{variable_is_ahead, all_appended, one_line, rest_fits}
use Rattle.sas_task_file.proofs.variables_and_groups.read_variable.Goals as goal

pub returns-clause-found : goal.returns-clause-found
returns-clause-found g c =
    let (some, names) = rw c.in-Some-2.is at c.in_ok-range.ensures.found in (
      names.items,
      names.are,
      names.many,
      variable_is_ahead c.in-Some.name.now c.in-Some.layer names.items _ c.in-Some.ensures (omega (arith, some, names.many)) (all_appended _ _ names) c.in-Some-read_word.ensures refl (omega (arith, names.many)),
    )

pub overflow_sub-front : goal.overflow_sub-front
overflow_sub-front g c =
    let (some, names) = rw c.in-Some-2.is at c.in_ok-range.ensures.found in
    omega (arith, rest_fits c.in-Some.ensures.1, rest_fits names.lines, rest_fits (one_line c.in-Some-read_word.ensures))

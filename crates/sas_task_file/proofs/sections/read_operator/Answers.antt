use Rattle.sas_task_file.proofs.Imports.{refl, arith}
use Rattle.sas_task_file.proofs.LinesReading.{operator_is_ahead, all_appended, rest_fits}
use Rattle.sas_task_file.proofs.sections.read_operator.Goals as goal

pub returns-clause-found : goal.returns-clause-found
returns-clause-found g c =
    let facts = rw c.in-Some-2.is at c.in_ok-facts.ensures.found in
    let effects = rw c.in-Some-3.is at c.in_ok-changed.ensures.found in (
      facts.items,
      effects.items,
      facts.are,
      effects.are,
      operator_is_ahead c.args.ranges.now c.in-Some.name.now c.in-Some-read_operator_end.cost facts.items effects.items _ c.in-Some.ensures (all_appended _ _ facts) (all_appended _ _ effects) c.in-Some-read_operator_end.ensures refl (omega (arith, facts.many, effects.many)),
    )

pub overflow_sub-front : goal.overflow_sub-front
overflow_sub-front g c =
    let facts = rw c.in-Some-2.is at c.in_ok-facts.ensures.found in
    let effects = rw c.in-Some-3.is at c.in_ok-changed.ensures.found in
    omega (arith, rest_fits c.in-Some.ensures.1, rest_fits facts.lines, rest_fits effects.lines, rest_fits c.in-Some-read_operator_end.ensures)

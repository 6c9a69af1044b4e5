-- No number before the fact with this number is wrong.
use Rattle.sas_task_file.proofs.Imports.{◌≡◌, effect, first_wrong, line_bounds}
use Rattle.sas_task_file.proofs.FirstWrongWords.{wrong_from}
use Rattle.sas_task_file.proofs.wrong_word.effect_wrong.Given as goal

abbrev pub invariant-loop-i : goal.invariant-loop-i
invariant-loop-i l = first_wrong 1 (line_bounds l.fn.ranges (effect l.fn.effect)) ≡ wrong_from l.fn.ranges l.fn.effect l.i

-- A group of the one fact that is in the family contains the other fact, or doesn't.
use Rattle.std.proofs.lemmas.Grind.{common_steps}
use Rattle.sas_mutex.proofs.Imports.{length, get_or, below_more, arith, true≢false, get_or_default, groups_of, family_of, iff_yes, iff_no}
use Rattle.sas_mutex.proofs.notes.some_has.Goals as goal
use Rattle.sas_mutex.proofs.notes.some_has.Goals.{else-is_kept-via-then-is_kept+else-has, else-is_kept-via-else-is_kept}

pub returns-then-has : goal.returns-then-has
returns-then-has c = grind (arith, common_steps, get_or, iff_yes)

pub loop-group-preserved : goal.loop-group-preserved
loop-group-preserved c = search (arith, groups_of, family_of, get_or, else-is_kept-via-then-is_kept+else-has, true≢false, else-is_kept-via-else-is_kept, below_more, get_or_default, length)

pub returns : goal.returns
returns c = search (arith, iff_no, length, family_of, groups_of)

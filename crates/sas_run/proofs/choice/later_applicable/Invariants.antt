-- The state of the search.
use Rattle.sas_run.proofs.Searching.{left}
use Rattle.sas_run.proofs.NamedAlike.{SearchedTo}
use Rattle.sas_run.proofs.choice.later_applicable.Given as goal

abbrev pub invariant-loop-next : goal.invariant-loop-next
invariant-loop-next g l = SearchedTo l.task l.state l.operator l.next

abbrev pub decreases-loop-next : goal.decreases-loop-next
decreases-loop-next g l = left l.task l.next

-- The facts so far consist of the runs so far.
use Rattle.sas_mutex.proofs.Imports.{◌≡◌, ◌++◌, List, length, Fact, AreRuns}
use Rattle.sas_mutex.proofs.runs.runs_in.Given as goal

abbrev pub invariant-loop-first : goal.invariant-loop-first
invariant-loop-first l = (before : List Fact) × (l.facts ≡ before ++ l.left) × AreRuns before l.runs

abbrev pub decreases-loop-first : goal.decreases-loop-first
decreases-loop-first l = length l.left

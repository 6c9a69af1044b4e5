-- The facts so far are recorded and don't clash.
use Rattle.sas_mutex.proofs.Imports.{take}
use Rattle.sas_mutex.proofs.KnownFacts.{AreSoFar}
use Rattle.sas_mutex.proofs.recorded.note_facts.Given as goal

abbrev pub invariant-loop-fact : goal.invariant-loop-fact
invariant-loop-fact g l = AreSoFar l.indexed l.kept l.facts (take l.fact-index l.facts) l.notes

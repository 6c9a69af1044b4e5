-- The lowest effect, of those on variables of the facts so far, that may set another fact of the
-- group.
use Rattle.sas_mutex.proofs.Imports.{IsNotedAt, take, IsLowestPartner}
use Rattle.sas_mutex.proofs.LowestEffects.{SetsOneOf}
use Rattle.sas_mutex.proofs.lowest.lowest_by_facts.Given as goal

abbrev pub invariant-loop-place : goal.invariant-loop-place
invariant-loop-place g l = record {
  notes : IsNotedAt l.firing l.kept l.recorded;
  lowest : IsLowestPartner l.firing l.kept l.group (SetsOneOf l.firing (take l.place l.facts)) l.lowest;
}

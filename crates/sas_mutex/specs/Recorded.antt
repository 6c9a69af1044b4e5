-- The facts that are recorded while effects are looked at.
use Rattle.std.specs.Prelude.{List}
use Rattle.sas_core.specs.declared.parts.Fact.{Fact}
use Rattle.sas_core.specs.declared.parts.Parts.{Parts}
use Rattle.sas_mutex.specs.declared.recorded.Recorded.{Recorded}
use Rattle.sas_mutex.specs.Notes.{AreBlank, AreFrom}

-- nothing is recorded
pub record IsClean (p : Parts) (recorded : Recorded) : Type 0 where
  pub known : AreBlank p recorded.known
  pub others : AreBlank p recorded.others

-- the recorded known facts are among these, and no other facts are recorded
pub record IsNotedFrom (p : Parts) (facts : List Fact) (recorded : Recorded) : Type 0 where
  pub known : AreFrom p facts recorded.known
  pub others : AreBlank p recorded.others

-- What checking plans of a task needs beside the task.
use Rattle.sas_core.specs.declared.parts.Parts.{Parts}
use Rattle.sas_names.specs.NameTable.{AreNames}
use Rattle.sas_run.specs.declared.checker.Checker.{Checker}
use Rattle.sas_run.specs.LongChains.{AreLongChains}
use Rattle.sas_run.specs.Stepping.{IsPrepared}

-- the checker has the names of the task's operators, and its stepper is ready
pub record IsChecker {E : Type 0} (Ready : E → Parts → Type 0) (p : Parts) (checker : Checker E)
    : Type 0 where
  pub names : AreNames p checker.names
  pub long : AreLongChains p checker.long
  pub prepared : IsPrepared Ready p checker.stepper

-- When a stepper is ready for a task, and what it tells of a step.
use Rattle.std.specs.Prelude.{◌≡◌, ℕ, ◌<◌, List, [], length, IsTrue, IsFalse}
use Rattle.sas_core.specs.declared.parts.Parts.{Parts}
use Rattle.sas_core.specs.Grounded.{operator_at}
use Rattle.sas_core.specs.Variables.{IsState}
use Rattle.sas_meaning.specs.Layers.{IsBasic, IsLayered}
use Rattle.sas_run.specs.declared.stepper.Stepper.{Stepper}
use Rattle.sas_run.specs.PlainSteps.{DeletedHasRoom}
use Rattle.sas_run.specs.Given.{NothingGiven}

-- The task is layered, the evaluator is ready, and no value is given. If deleted facts are noted,
-- each operator's effects may all delete a fact without allocation. If not, no variable is derived.
pub record IsPrepared {E : Type 0} (Ready : E → Parts → Type 0) (p : Parts) (w : Stepper E)
    : Type 0 where
  pub layered : IsLayered p
  pub ready : Ready w.evaluator p
  pub clean : NothingGiven p w.given
  pub room : (operator : ℕ) → operator < length p.operators
      → DeletedHasRoom w.deleted (length (operator_at p operator).effects)
  pub basic : IsFalse w.deleted.noted → (var : ℕ) → IsBasic p var

-- The stepper is ready for a step from the state s. If deleted facts are noted, the evaluator settled
-- s last.
pub record IsAt {E : Type 0} (Ready : E → Parts → Type 0) (Follows : E → Parts → List ℕ → Type 0)
    (p : Parts) (w : Stepper E) (s : List ℕ) : Type 0 where
  pub prepared : IsPrepared Ready p w
  pub follows : IsTrue w.deleted.noted → Follows w.evaluator p s
  pub state : IsState p.variables s

-- This list has the derived variables that the evaluator changed in the last step. It is empty if
-- deleted facts aren't noted, since no variable is derived then.
pub record HasChanged {E : Type 0} (Changed : E → List ℕ → Type 0) (w : Stepper E) (listed : List ℕ)
    : Type 0 where
  pub noted : IsTrue w.deleted.noted → Changed w.evaluator listed
  pub basic : IsFalse w.deleted.noted → listed ≡ []

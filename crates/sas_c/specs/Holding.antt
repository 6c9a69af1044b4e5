-- What is held of a task that was read, and what is answered about a plan of it.
use Rattle.std.specs.Prelude.{◌≡◌, List, ℕ, Option, Some, None, IfSome, IsNone, IsSomeAnd, Ok, []}
use Rattle.sas_core.specs.declared.parts.Parts.{Parts}
use Rattle.sas_meaning.specs.Layers.{IsLayered}
use Rattle.sas_reader.specs.Format.{ReadsAs}
use Rattle.sas_reader.specs.Limit.{most_bytes}
use Rattle.sas_task_file.specs.TaskFormat.{task_format}
use Rattle.sas_answers.specs.Ending.{Output}
use Rattle.sas_answers.specs.NumberedPlans.{NumbersAnswer, RunAnswer}
use Rattle.sas_plan_reasons.specs.RunTraces.{RunTrace}
use Rattle.sas_plan_reasons.specs.VerdictBy.{VerdictBy}
use Rattle.sas_requests.specs.Answering.{PlanBy}
use Rattle.sas_c.specs.Telling.{Returns}
use Rattle.sas_c.specs.declared.plans.PlanCall.{PlanCall}
use Rattle.sas_c.specs.declared.plans.PlanCall.TheVariants.{Bytes, Numbers, Traced}
use mir.Syntax.{impl, tnil, dnil}
use base.Fml.{Fml, ftrue, fex}
use denote.RattleType.{RattleType}
use denote.RawPtr.{Ptr}
use Rattle.std.specs.declared.alloc.Global.{Global}
use Rattle.std.specs.contracts.impls.GlobalAllocator.TheImpl.{ghosts}
use Rattle.std.specs.Box.Ownership.{box_owns}
use Rattle.sas_flat.specs.contracts.task.FlatTask as flat
use Rattle.sas_flat.specs.contracts.task.FlatTaskGrounded.TheImpl as grounded
use Rattle.sas_axioms.specs.contracts.worklist.Worklist as worklist
use Rattle.sas_axioms.specs.contracts.worklist.WorklistSettle.TheImpl as settle
use Rattle.sas_plan_reasons.specs.contracts.loaded_task.LoadedTask as loaded

-- a task is held, the one that the bytes are a text of, and it is layered
abbrev pub HoldsTask : List ℕ → Option Parts → Type 0
HoldsTask b None = ⊥
HoldsTask b (Some p) =
    ReadsAs task_format most_bytes b (Ok p) × IsLayered p

-- the output about operators, by their numbers, at this cost
abbrev pub NumbersOut : Parts → List ℕ → ℕ → Option Output → Type 0
NumbersOut p operators cost output =
    (answer : Output) × NumbersAnswer p operators cost answer × (output ≡ Some answer)

-- the output about operators, by their numbers, at this cost, from the start that is given
abbrev pub RunOut : Parts → List ℕ → List ℕ → ℕ → Option Output → Type 0
RunOut p start operators cost output =
    (answer : Output) × RunAnswer p start operators cost answer × (output ≡ Some answer)

-- this after a trace
abbrev pub RunTraceOut : Parts → List ℕ → List ℕ → ℕ → Option Output → Type 0
RunTraceOut p start operators cost output =
    IsSomeAnd output (RunTrace p start operators cost)

-- the output of a call about a plan of the task that is held
abbrev pub HeldOut : PlanCall → Parts → Option Output → Type 0
HeldOut (Bytes detail plan) p = PlanBy detail.reasons (VerdictBy detail p) plan.now
HeldOut (Numbers plan) p = RunOut p plan.start.now plan.operators.now plan.cost
HeldOut (Traced plan) p = RunTraceOut p plan.start.now plan.operators.now plan.cost

-- What a call about the task that is held returns. `Returned` says what it returns for this task.
pub record AsksHeld (Returned : Parts → Type 0) (held after : Option Parts) (before room : List ℕ)
    (number : ℕ) : Type 0 where
  pub of_task : IfSome held Returned
  -- it stays held
  pub same : after ≡ held
  -- 5: none is held
  pub none : IsNone held → (number ≡ 5) × (room ≡ before)

-- this, where the call returns an answer: `Out` holds of the right output for this task
abbrev pub ReturnsHeld : (Parts → Option Output → Type 0) → Option Parts → Option Parts → List ℕ
    → List ℕ → ℕ → ℕ → Type 0
ReturnsHeld Out held after before room size number =
    AsksHeld (λ task. Returns (Out task) before room size number) held after before room number

-- the type of a task that is held, as the logic names it; `impl` stands for the code of the task's
-- methods, which no ghost member reads
abbrev pub the_row : RattleType
the_row = loaded.the_row worklist.the_row
    (settle.ghosts flat.the_row grounded.ghosts (impl [] tnil dnil))

-- the box of the task that it points to, or nothing
abbrev pub owns_task : Ptr → Option Parts → Fml
owns_task p None = ftrue
owns_task p (Some task) = fex Global (λ a. box_owns (ghosts.dealloc_token a) the_row p task)

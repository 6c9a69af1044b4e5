-- What a second pass over a plan notes of each step, and of the whole run, or prints.
use Rattle.std.specs.Prelude.{◌≡◌, ◌≢◌, ◌⊎◌, ℕ, ◌<◌, ◌≤◌, if◌then◌else◌, List, [], ◌∷◌, ◌++◌, length, slice_index, Option, Some, None}
use Rattle.sas_core.specs.declared.parts.Parts.{Parts}
use Rattle.sas_core.specs.PlanParts.{PlanParts}
use Rattle.sas_core.specs.Variables.{IsState}
use Rattle.sas_names.specs.Nameless.{nameless_steps}
use Rattle.sas_run.specs.declared.plan_check.PlanFault.{PlanFault}
use Rattle.sas_run.specs.Runs.{Run, last_state, StepsSucceed, RunEndsWith}
use Rattle.sas_plan_reasons.specs.Cause.{IsSince}
use Rattle.sas_plan_reasons.specs.Trace.{is_changed, change_line}
use Rattle.sas_plan_reasons.specs.MayMean.{IsOther, MayMean}
use Rattle.sas_plan_reasons.specs.declared.history.OtherOperator.{OtherOperator}
use Rattle.sas_plan_reasons.specs.declared.history.PlanHistory.{PlanHistory}
use Rattle.sas_plan_reasons.specs.declared.changes.Changes.{Changes}
use Rattle.sas_plan_reasons.specs.declared.nameless.NamelessSteps.{NamelessSteps}
use Rattle.sas_plan_reasons.specs.WhyPlan.{FollowsAnyway, first_nameless, step_made}
use Rattle.sas_run.specs.Anyway.{AreNoted}
use Rattle.sas_run.specs.declared.anyway.Anyway.{Anyway}

-- the first step of the run that may mean another operator, and the lowest that it may mean; or
-- none may
abbrev pub IsOtherIfAny : Parts → Run → Option OtherOperator → Type 0
IsOtherIfAny p run (Some other) = MayMean p run other.step other.operator
IsOtherIfAny p run None = (k operator : ℕ) → IsOther p run k operator → ⊥

-- for each variable of the task, since when it has its value in the last state of the run
pub record HaveSince (p : Parts) (run : Run) (since : List ℕ) : Type 0 where
  pub one_each : length since ≡ length p.variables
  pub each : (var : ℕ) → var < length p.variables → IsSince run var (slice_index since var)

-- how many steps name no operator, and the first five of them
pub record AreNameless (p : Parts) (steps : List (List ℕ)) (nameless : NamelessSteps) : Type 0 where
  pub count : nameless.count ≡ nameless_steps p steps
  pub first : nameless.first.items ≡ first_nameless p steps

-- it is noted what follows in the plan if this step is made anyway
pub record NotesAnyway (p : Parts) (plan : PlanParts) (run : Run) (number : ℕ) (anyway : Anyway)
    : Type 0 where
  pub step : anyway.step ≡ number
  pub exists : number ≤ length plan.steps
  pub state : IsState p.variables anyway.state
  pub failing : List ℕ
  pub noted : AreNoted failing anyway
  pub follows : FollowsAnyway p plan run number failing anyway.state

-- it is noted if there is such a step
abbrev pub NotesAnywayIfAny : Parts → PlanParts → Run → Option ℕ → Option Anyway → Type 0
NotesAnywayIfAny p plan run (Some step) (Some anyway) = NotesAnyway p plan run step anyway
NotesAnywayIfAny p plan run step anyway = (step ≡ None) × (anyway ≡ None)

-- this is noted of the run of a plan, up to its fault
pub record Retraces (p : Parts) (plan : PlanParts) (history : PlanHistory) (run : Run)
    : Type 0 where
  pub through : StepsSucceed p run
  pub ends : RunEndsWith p plan run (Some history.fault)
  pub nameless : AreNameless p plan.steps history.nameless
  pub operators : history.operators.items ≡ run.operators
  pub last : history.last ≡ last_state run
  pub since : HaveSince p run history.since.items
  pub other : IsOtherIfAny p run history.other
  pub anyway : NotesAnywayIfAny p plan run (step_made history.fault) history.anyway

-- the plan has this fault after the steps of the run, and none of these may mean another operator
pub record ComesUnambiguously (p : Parts) (plan : PlanParts) (fault : PlanFault) (run : Run)
    : Type 0 where
  pub through : StepsSucceed p run
  pub ends : RunEndsWith p plan run (Some fault)
  pub none : IsOtherIfAny p run None

-- ---- since when variables have their values

-- there is a place for each of this many variables
pub record HavePlaces (variables : ℕ) (changes : Changes) : Type 0 where
  pub values : length changes.values ≡ variables
  pub since : length changes.since.items ≡ variables

-- the values of the state s, which no step has changed
pub record AreFirstChanges (s : List ℕ) (changes : Changes) : Type 0 where
  pub values : changes.values ≡ s
  pub one_each : length changes.since.items ≡ length s
  pub since : (var : ℕ) → slice_index changes.since.items var ≡ 0

-- the variable has its value in the state s, and the step is noted for it exactly if that is
-- another one than before
pub record NotedAt (step : ℕ) (s : List ℕ) (old new : Changes) (var : ℕ) : Type 0 where
  pub value : slice_index new.values var ≡ slice_index s var
  pub changed : slice_index old.values var ≢ slice_index s var
      → slice_index new.since.items var ≡ step
  pub unchanged : slice_index old.values var ≡ slice_index s var
      → slice_index new.since.items var ≡ slice_index old.since.items var

-- the variable is as it was
pub record LeftAt (old new : Changes) (var : ℕ) : Type 0 where
  pub value : slice_index new.values var ≡ slice_index old.values var
  pub since : slice_index new.since.items var ≡ slice_index old.since.items var

-- these variables are noted so, and the others too, or they are as they were
pub record Notes (step : ℕ) (s : List ℕ) (These : ℕ → Type 0) (old new : Changes) : Type 0 where
  pub places : HavePlaces (length s) new
  pub each : (var : ℕ) → NotedAt step s old new var ⊎ LeftAt old new var
  pub these : (var : ℕ) → These var → NotedAt step s old new var

-- ---- the trace

-- the line of a variable with its end, where it has another value in s' than in s; else no bytes
abbrev pub change_text : Parts → List ℕ → List ℕ → ℕ → List ℕ
change_text p s s' var = if is_changed s s' var then change_line p s s' var ++ 10 ∷ [] else []

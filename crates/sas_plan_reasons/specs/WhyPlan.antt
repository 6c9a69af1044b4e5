-- Why a plan isn't valid: the lines of reasons after its verdict.
use Rattle.std.specs.Prelude.{◌≡◌, ◌≢◌, ◌⊎◌, ℕ, ◌+◌, ◌-◌, ◌<◌, ◌==◌, ◌&&◌, Bool, true, false, not, nat_lt, is_some, if◌then◌else◌}
use Rattle.std.specs.Prelude.{List, [], ◌∷◌, ◌++◌, length, map, take, filter, flat_map, sum_by, slice_index_or, bytes_eq}
use Rattle.std.specs.Prelude.{Option, None, Some}
use Rattle.std.specs.List.{count_by, list_any}
use Rattle.std.specs.Option.{option_map_or}
use Rattle.sas_core.specs.declared.parts.Operator.{Operator}
use Rattle.sas_core.specs.declared.parts.Parts.{Parts}
use Rattle.sas_core.specs.PlanParts.{PlanParts}
use Rattle.sas_core.specs.Stepwise.{step_at}
use Rattle.sas_core.specs.Grounded.{operator_at, effect_at}
use Rattle.sas_meaning.specs.Steps.{preconditions, Fires}
use Rattle.sas_meaning.specs.Places.{places}
use Rattle.sas_run.specs.declared.plan_check.PlanFault.{PlanFault}
use Rattle.sas_run.specs.declared.plan_check.PlanFault.TheVariants.{Memory, NoOperator, NotApplicable, Conflict, GoalMissed, CostDiffers}
use Rattle.sas_answers.specs.declared.line.Line.{Line}
use Rattle.sas_answers.specs.declared.line.Line.TheVariants as line
use Rattle.sas_plan_reasons.specs.Lines.{with_lines, LineThen, LinesOfEach}
use Rattle.sas_names.specs.Nameless.{is_nameless, nameless_steps}
use Rattle.sas_names.specs.Names.{IsLowestNamed}
use Rattle.sas_run.specs.Anyway.{Follows}
use Rattle.sas_run.specs.Running.{IsChoice}
use Rattle.sas_run.specs.Runs.{Run, last_state, StepsSucceed, steps_before}
use Rattle.sas_plan_reasons.specs.Lowest.{AreLowest}
use Rattle.sas_plan_reasons.specs.MayMean.{similar_operator, IsOther, MayMean}
use Rattle.sas_plan_reasons.specs.Cause.{fails, IsCause}

-- ---- no operator of that name

-- the first five steps that name no operator, counted from 0
abbrev pub first_nameless : Parts → List (List ℕ) → List ℕ
first_nameless p steps = take 5 (places (is_nameless p) steps)

-- the step after so many, and the operator with a similar name, if there is one
abbrev pub nameless_step_lines : Parts → PlanParts → ℕ → List Line
nameless_step_lines p plan before = line.Step (before + 1)
    ∷ option_map_or (λ operator. line.SimilarOperator operator ∷ [])
    (similar_operator p (step_at plan before)) []

-- whether one of these steps has an operator with a similar name
abbrev pub some_similar : Parts → PlanParts → List ℕ → Bool
some_similar p plan = list_any (λ before. is_some (similar_operator p (step_at plan before)))

-- a hint if there are two steps or more, none names an operator, and none of the first five has an
-- operator with a similar name
abbrev pub other_task_hint : Parts → PlanParts → List Line
other_task_hint p plan = if nat_lt 1 (length plan.steps)
    && ((nameless_steps p plan.steps == length plan.steps)
    && not (some_similar p plan (first_nameless p plan.steps)))
    then line.OtherTaskHint ∷ []
    else []

-- these lines for the first five steps that name no operator, how many there are, and the hint
abbrev pub nameless_lines : Parts → PlanParts → List Line
nameless_lines p plan =
    flat_map (nameless_step_lines p plan) (first_nameless p plan.steps)
    ++ line.NamelessSteps (nameless_steps p plan.steps) (length plan.steps)
    ∷ other_task_hint p plan

-- ---- not applicable

-- the lines of an operator that isn't applicable: it, and the cause of each failing precondition
abbrev pub AreFailedPreconditionLines : Parts → Run → ℕ → List Line → Type 0
AreFailedPreconditionLines p run operator lines = LineThen (line.Operator operator)
    (LinesOfEach (IsCause p run) (filter (fails (last_state run))
    (preconditions (operator_at p operator)))) lines

-- these lines for each operator of the name, ascending
abbrev pub AreOperatorLines : Parts → Run → List ℕ → List Line → Type 0
AreOperatorLines p run name lines = LinesOfEach (AreFailedPreconditionLines p run)
    (places (λ (o : Operator). bytes_eq o.name name) p.operators) lines

-- ---- conflicting effects

-- an effect and an earlier one fire in the state and set one variable to different values
pub record ConflictsWith (s : List ℕ) (o : Operator) (effect earlier : ℕ) : Type 0 where
  pub before : earlier < effect
  pub exists : effect < length o.effects
  pub fires : Fires s (effect_at o earlier)
  pub fires' : Fires s (effect_at o effect)
  pub var : (effect_at o earlier).var ≡ (effect_at o effect).var
  pub other : (effect_at o earlier).new ≢ (effect_at o effect).new

-- the operator, the first effect that conflicts with an earlier one, and the lowest such one
abbrev pub AreConflictLines : Parts → List ℕ → ℕ → List Line → Type 0
AreConflictLines p s operator lines = (effect earlier : ℕ)
    × AreLowest (ConflictsWith s (operator_at p operator)) effect earlier
    × (lines ≡ line.Operator operator
    ∷ line.ConflictingEffect operator earlier
    ∷ line.ConflictingEffect operator effect
    ∷ [])

-- ---- goal fact not reached

-- the goal fact with this index, and its cause
abbrev pub AreGoalFactLines : Parts → Run → ℕ → List Line → Type 0
AreGoalFactLines p run index lines = LineThen (line.GoalFact index)
    (IsCause p run (slice_index_or p.goal index (record { var = 0; value = 0 }))) lines

-- how many facts of the goal don't hold, and these lines for each of them
abbrev pub AreGoalLines : Parts → Run → List Line → Type 0
AreGoalLines p run lines = LineThen
    (line.FailingGoalFacts (count_by (fails (last_state run)) p.goal) (length p.goal))
    (LinesOfEach (AreGoalFactLines p run) (places (fails (last_state run)) p.goal)) lines

-- ---- cost differs

-- the sum of the operators' cost lines, whatever the metric
abbrev pub cost_lines_sum : Parts → List ℕ → ℕ
cost_lines_sum p operators = sum_by (λ operator. (operator_at p operator).cost) operators

-- a hint if the plan has the cost of its steps under the other metric: the sum of their cost lines
-- where the metric is 0 (`false`), their number where it is 1
abbrev pub cost_hint : (metric : Bool) (cost steps sum : ℕ) → List Line
cost_hint false cost steps sum = if cost == sum then line.UnitCostHint ∷ [] else []
cost_hint true cost steps sum = if cost == steps then line.CostLineHint ∷ [] else []

-- the task's metric, the number of steps, this sum, and a hint if there is one
abbrev pub cost_lines : Parts → ℕ → Run → List Line
cost_lines p cost run =
    line.Metric ∷ line.Steps (length run.steps)
    ∷ line.CostLines (cost_lines_sum p run.operators)
    ∷ cost_hint p.metric cost (length run.steps) (cost_lines_sum p run.operators)

-- ---- what follows if the step that fails is made anyway

-- the steps of the plan from this one on are made, whether they fail or not, in the last state of
-- the run: they lead to `last`, and of those behind this one those in `failing` fail
abbrev pub FollowsAnyway : Parts → PlanParts → Run → ℕ → List ℕ → List ℕ → Type 0
FollowsAnyway p plan run step failing last = Follows p
    (λ before s. IsChoice p s (step_at plan before))
    (λ before. IsLowestNamed p (step_at plan before) 0)
    (length plan.steps) step (last_state run) failing last

-- how many of the later steps fail, the first five of them, and how many facts of the goal fail
abbrev pub anyway_lines : Parts → ℕ → ℕ → List ℕ → List ℕ → List Line
anyway_lines p steps step failing last = line.LaterFailures (length failing) (steps - step)
    ∷ map line.LaterFailure (take 5 failing)
    ++ line.FailingGoalLater (count_by (fails last) p.goal) (length p.goal) ∷ []

-- the step that is made anyway: that of the fault, if it names an operator
abbrev pub step_made : PlanFault → Option ℕ
step_made (NotApplicable step) = Some step
step_made (Conflict step operator) = Some step
step_made other = None

-- these lines if there is such a step
abbrev pub AreAnywayLines : Parts → PlanParts → Run → Option ℕ → List Line → Type 0
AreAnywayLines p plan run None lines = lines ≡ []
AreAnywayLines p plan run (Some step) lines = (failing last : List ℕ)
    × FollowsAnyway p plan run step failing last
    × (lines ≡ anyway_lines p (length plan.steps) step failing last)

-- ---- after each of these

-- a line for the first step that could also mean another operator, if any
abbrev pub AreCouldBeLines : Parts → Run → List Line → Type 0
AreCouldBeLines p run lines =
    ((step operator : ℕ) × MayMean p run step operator × (lines ≡ line.CouldBe step operator ∷ []))
    ⊎ (((k operator : ℕ) → IsOther p run k operator → ⊥) × (lines ≡ []))

-- ---- why

-- the lines for this fault, after a run of the steps before it (`Memory` is no fault of a plan)
abbrev pub AreFaultLines : Parts → PlanParts → Run → PlanFault → List Line → Type 0
AreFaultLines p plan run (NoOperator step) lines = lines ≡ nameless_lines p plan
AreFaultLines p plan run (NotApplicable step) lines =
    LineThen (line.Step step) (AreOperatorLines p run (step_at plan (step - 1))) lines
AreFaultLines p plan run (Conflict step operator) lines =
    LineThen (line.Step step) (AreConflictLines p (last_state run) operator) lines
AreFaultLines p plan run (GoalMissed index) lines = AreGoalLines p run lines
AreFaultLines p plan run (CostDiffers sum) lines = lines ≡ cost_lines p plan.cost run
AreFaultLines p plan run Memory lines = ⊥

-- the lines of reasons after the verdict on a plan with this fault
pub record IsWhy (p : Parts) (plan : PlanParts) (fault : PlanFault) (lines : List Line)
    : Type 0 where
  pub run : Run
  pub went : run.steps ≡ steps_before plan fault
  pub through : StepsSucceed p run
  pub reasons : List Line
  pub are : AreFaultLines p plan run fault reasons
  pub later : List Line
  pub follow : AreAnywayLines p plan run (step_made fault) later
  pub others : List Line
  pub may : AreCouldBeLines p run others
  pub whole : lines ≡ with_lines [] reasons ++ (later ++ others)

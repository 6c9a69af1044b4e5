-- What the proofs use of other crates, and of the definitions of this one.
pub use Rattle.std.proofs.Common.{◌≡◌, IsTrue, ℕ, ◌+◌, ◌<◌, ◌≤◌, ◌≢◌, List, length, get_or, slice_set, Option, None, Some, sym, ap, subst, ◌∙◌, inl, inr, arith, [], refl, true≢false, ◌-◌, ◌⊎◌, ◌∷◌, ◌++◌, vec_capacity, rules, zero, suc, slice_index, slice_index_or, bytes_eq, set, take, drop, Result, Ok, Err, filter_map, option_map, ◌*◌, ◌^◌, is_some, cond, append_assoc, IfSome}
pub use Rattle.std.proofs.Math.Nat.{eq-or-lt_of_le}
pub use Rattle.std.proofs.Math.Seq.{take-append_seam, get_or-append_seam}
pub use Rattle.std.proofs.lemmas.Bool.{cases_eq, ne_eqb, cases_lt, cases_Bool, ltb-false, true_from_ne_false, false_from_ne_true}
pub use Rattle.std.proofs.lemmas.Grind.{common_steps}
pub use Rattle.std.proofs.lemmas.List.{length-map, get_or-set_same, get_or-set_other, length-set, get_or_append_left, get_or_push, get_or_read, length-append, take_all, get_or-take, get_or_default, length-take, take-append-drop, drop_more, get_or-append-add, get_or-map, length-map, same_lists, take_more, get_or-drop, length-take-le, length-drop}
pub use Rattle.std.proofs.lemmas.List.Elements.{All-nil, All-cons, All-push, All-weaker, All-head, All-tail, All-map, All-append, All-from_recursion, All-contains, Contains-get_or, Contains-append_left, Contains-append_right, Contains-push}
pub use Rattle.std.proofs.lemmas.List.Quantifiers.{all_pairs_push}
pub use Rattle.std.proofs.lemmas.List.Sums.{count_by_more_no, count_by_more_yes, sum_by-cons}
pub use Rattle.std.proofs.lemmas.Option.{none-some, same_Some, slice_get-get_or}
pub use Rattle.std.proofs.lemmas.Result.{err_from_is_err_and}
pub use Rattle.std.proofs.lemmas.Slice.Eq.{bytes_eq-Decides}
pub use Rattle.std.specs.Cmp.{unsigned_tied}
pub use Rattle.std.specs.Global.{Vec}
pub use Rattle.std.specs.List.{All, AllZip, cons_option, AllByRecursion, count_by}
pub use Rattle.std.specs.Option.{option_and_then}
pub use Rattle.std.specs.Ordering.{nat_cmp}
pub use Rattle.std.specs.Prelude.{unwrap_or}
pub use Rattle.std.specs.Result.{IsOk}
pub use Rattle.sas_core.proofs.Fitting.{operator_fits, effect_fits}
pub use Rattle.sas_core.proofs.Places.{holds_at}
pub use Rattle.sas_core.proofs.PlainEffects.{as_many_effects, effect_is_plain}
pub use Rattle.sas_core.specs.Changes.{plain_effect, plain_effects, change_of}
pub use Rattle.sas_core.specs.Grounded.{operator_at, no_effect, effect_at}
pub use Rattle.sas_core.specs.PlanParts.{PlanParts}
pub use Rattle.sas_core.specs.Variables.{IsState, HasValue, FactExists, MayHaveValue, layer_of}
pub use Rattle.sas_core.specs.WellRanged.{EffectFits, WellRanged}
pub use Rattle.sas_core.specs.declared.grounded.Change.{Change}
pub use Rattle.sas_core.specs.declared.parts.Effect.{Effect}
pub use Rattle.sas_core.specs.declared.parts.Fact.{Fact}
pub use Rattle.sas_core.specs.declared.parts.Operator.{Operator}
pub use Rattle.sas_core.specs.declared.parts.Parts.{Parts}
pub use Rattle.sas_core.specs.declared.parts.Variable.{Variable}
pub use Rattle.sas_meaning.proofs.Exists.{settled_exists, initial_exists}
pub use Rattle.sas_meaning.proofs.Facts.{hold_or_not, Untouched}
pub use Rattle.sas_meaning.proofs.FastDownwardSteps.{step_there, is_one_there, steps, step_forced, forced_exists, forced_is_one}
pub use Rattle.sas_meaning.proofs.Forced.{state_set, fact_within}
pub use Rattle.sas_meaning.proofs.Layers.{layer_cases}
pub use Rattle.sas_meaning.proofs.Settling.{settled_where_empty}
pub use Rattle.sas_meaning.proofs.Unique.{settled_is_one, step_is_one}
pub use Rattle.sas_meaning.proofs.Writing.{one, fires_so, so_fires, written_more, written_length}
pub use Rattle.sas_meaning.specs.FastDownward.{FastDownwardStep, ForcedStep}
pub use Rattle.sas_meaning.specs.StepLaws.{fires, written}
pub use Rattle.sas_run.specs.Anyway.{Succeeds, Fails, StandsFor, MadeAnyway, GoOnAnyway, Follows, AreNoted, IsBefore}
pub use Rattle.sas_run.specs.declared.anyway.Anyway.{Anyway}
pub use Rattle.sas_run.specs.declared.choice.Choice.TheVariants.{Unknown, Blocked, Found}
pub use Rattle.sas_meaning.specs.Following.{HaveGone, ListsDerived}
pub use Rattle.sas_meaning.specs.Layers.{IsBasic, IsLayered}
pub use Rattle.sas_meaning.specs.Reachable.{Reachable, Initial, Next}
pub use Rattle.sas_meaning.specs.InitialStates.{IsInitial}
pub use Rattle.sas_meaning.specs.Settled.{Settles, IsSettled, SameBasic}
pub use Rattle.sas_meaning.specs.States.{Holds, AllHold}
pub use Rattle.sas_meaning.specs.Steps.{preconditions, Step, Fires, Agree, old_fact}
pub use Rattle.sas_run.specs.ByNumbers.{OperatorsLead, GoThrough, GoesThrough, GoesThroughFrom, IsValidByNumbers, IsValidFrom}
pub use Rattle.sas_names.specs.Chains.{AreStepOperators, IsChain}
pub use Rattle.sas_run.specs.Choosers.{IsNumberChoice, Makes, MakesStepBy, FailsNext, EndsSteps, EndsPlan, IsSolutionBy, IsFaultByOrMemory}
pub use Rattle.sas_run.specs.PlainSteps.{DeletedHasRoom, NotesOn, AreMade, IsPlainStep, OldHolds}
pub use Rattle.sas_run.specs.Given.{given_to, Replaces, value_after, NothingGiven, IsGiven, IsGivenTo, GivesValue, GivesOther}
pub use Rattle.sas_run.specs.Laws.{AreChosen, ValidByNumbers, SomeVerdictByNumbers, NumbersHaveNoFault, FaultByNumbersIsOne, RestIsValid, LeadsToReachable, LastIsReachable, SomeVerdict, ValidHasNoFault, ValidIsOne, FaultIsOne, SomeRun, OneRun}
pub use Rattle.sas_run.specs.LongChains.{Requires, operators_with, IsPushed, IsIn, ArePart, IsLongChain, AreLongChains, AreEither, BeginsLower}
pub use Rattle.sas_names.specs.Named.{IsNamed}
pub use Rattle.sas_names.specs.Names.{IsNextNamed, IsLowestNamed, existing}
pub use Rattle.sas_run.specs.NumberFaults.{IsStuck, IsFaultFrom, IsFaultFromOrMemory, LeadsAsFar}
pub use Rattle.sas_run.specs.OtherSensesLaws.{ValidIsUsuallyValid, ValidInFastDownward, EndsInFastDownward}
pub use Rattle.sas_core.specs.Tasks.{cost_of}
pub use Rattle.sas_run.specs.Plans.{IsApplicable, NoneApplicable, IsChosen, LeadFrom, LeadsTo, IsValid, cost_of_all}
pub use Rattle.sas_run.specs.Running.{IsSolution, IsFaultOrMemory, IsChoice, StepFailsBy, IsFinalVerdict, Steps, IsApplied, IsFirstConflict, IsFirstMissedFact, IsFirstChosen, IsLater, IsLaterIfAny, IsStepFault}
pub use Rattle.sas_run.specs.Runs.{Run, steps_before, RunEndsWith, IsRunOf, IsEnding, state_at, last_state, StepsSucceed, IsRunFrom, names_of}
pub use Rattle.sas_run.specs.Starts.{start_of}
pub use Rattle.sas_run.specs.Observing.{IsTold, CanSee, ListsLast, AreMadeAndSeen}
pub use Rattle.sas_run.specs.Stepping.{IsAt}
pub use Rattle.sas_run.specs.Verdicts.{IsFirstMissed, ComesTo, IsFaultOf}
pub use Rattle.sas_run.specs.declared.deletions.DeletedFacts.{DeletedFacts}
pub use Rattle.sas_run.specs.declared.long_chains.LongChain.{LongChain}
pub use Rattle.sas_run.specs.declared.long_chains.LongChains.{LongChains}
pub use Rattle.sas_run.specs.declared.plan_check.PlanFault.{PlanFault}
pub use Rattle.sas_run.specs.declared.plan_check.PlanFault.TheVariants.{Memory, NoOperator, NotApplicable, Conflict, GoalMissed, CostDiffers}
pub use Rattle.sas_run.specs.declared.choice.Choice.{Choice}
pub use Rattle.sas_run.specs.declared.choice.Choice.TheVariants.{Found}
pub use Rattle.sas_names.specs.declared.step_operators.StepOperators.{StepOperators}
pub use Rattle.sas_run.specs.declared.stepper.Stepper.{Stepper}
pub use Rattle.sas_run.specs.declared.steps.StepFault.{StepFault}
pub use Rattle.sas_run.specs.declared.plan_check.Valid.{Valid}

-- What the proofs use of other crates, and of the definitions of this one.
pub use Rattle.std.proofs.Common.{◌≡◌, ℕ, ◌<◌, Bool, true, false, List, [], ◌∷◌, ◌++◌, length, get_or, slice_index, Some, refl, sym, ◌∙◌, ap, subst, inl, inr, ◌==◌, ◌&&◌, find, map, ◌⊎◌, None, arith, ◌≢◌, zero, suc, ◌+◌, ◌≤◌, cond, bytes_eq, Option, not, filter, if◌then◌else◌, ◌-◌, take, set, Vec, Global, flat_map, ◌↔◌, IsTrue, append_assoc, IsFalse, ◌||◌, replicate, is_some, slice_get, rules, ◌*◌, ◌^◌, drop, vec_len, min, codes, decimal, slice_set, fold}
pub use Rattle.std.proofs.Math.ListN.{get_or-append}
pub use Rattle.std.proofs.Math.Numerals.{add-one}
pub use Rattle.std.proofs.Math.Seq.{take-append_seam, take-suc, get_or-append_seam}
pub use Rattle.std.proofs.lemmas.Bool.{false≢true, and_parts, eqb-true, not-true, eqb-false, cases_eq, cases_lt, cases_order, cases_Bool, true≢false, lt-ltb, ltb-true, eq-eqb, ne_eqb, and_from}
pub use Rattle.std.proofs.lemmas.Bool.Decides.{eqb_tells, Decides-eqb, Decides-not, Decides-and, Decides-like, Decides-by_and, Decides-by_or, same_from_decides, leb_tells}
pub use Rattle.std.proofs.lemmas.Cmp.{nat_cmp_total, on_total, then_total}
pub use Rattle.std.proofs.lemmas.Fn.{always_returns_same}
pub use Rattle.std.proofs.lemmas.Grind.{flat_map-append, common_steps, same_number_lists}
pub use Rattle.std.proofs.lemmas.List.{get_or_default, nil_from_length, get_or-set_same, get_or-set_other, length-set, get_or_at, take-append-le, get_or_push, drop_more, append-nil, map-append, take_more, take_all, take-take, length-take, length-take-le, get_or-take, length-append, same_lists, length-replicate, get_or_append_left, get_or-map, length-map, get_or-append-add, get_or-replicate, get_or_past, take_at, drop_at, drop_all, length-drop}
pub use Rattle.std.proofs.lemmas.List.Concat.{flat_map-cons}
pub use Rattle.std.proofs.lemmas.List.Elements.{All-nil, All-cons, All-contains, Contains-append_left, Contains-append_right, Contains-append_cases, Contains-get_or, All-head, All-tail, Contains-push, Contains-push_cases, filter-append, All-map, All-weaker, All-append, All-push, All-from_recursion, All-rest}
pub use Rattle.std.proofs.lemmas.List.Folds.{Any-from_list_any, list_any_at, list_any_none, list_any-append, flat_map-map}
pub use Rattle.std.proofs.lemmas.List.FromFn.{map-range_with_len_more, length-map-range_with_len, get_or-map-range_with_len}
pub use Rattle.std.proofs.lemmas.List.Kept.{AllPairs-cons, AllPairs-filter}
pub use Rattle.std.proofs.lemmas.List.Quantifiers.{all_pairs_push}
pub use Rattle.std.proofs.lemmas.List.Sorted.{All-permutation, Contains-permutation, IsPermutation-sym, length_permutation, sorted_far, ranks_by, IsNonDecreasingBy-from_sort, IsNonDecreasingBy-from_sort_by_key}
pub use Rattle.std.proofs.lemmas.List.Sums.{fails_before_first, passes_at_first}
pub use Rattle.std.proofs.lemmas.Map.Keys.{IsDistinct-IsPermutation}
pub use Rattle.std.proofs.lemmas.Map.Made.{AllPairs-from_IsDistinct, IsDistinct-from_AllPairs}
pub use Rattle.std.proofs.lemmas.Option.{none-some, same_Some}
pub use Rattle.std.proofs.lemmas.Result.{on_ok_weaker, IfOk-weaker}
pub use Rattle.std.proofs.lemmas.Slice.Eq.{bytes_eq-Decides}
pub use Rattle.std.specs.BinaryHeap.{heap_items, IsUpperBound}
pub use Rattle.std.specs.Bool.{Decides}
pub use Rattle.std.specs.Char.{to_ascii_lowercase}
pub use Rattle.std.specs.Cmp.{IsTotalOrder}
pub use Rattle.std.specs.List.{All, list_all, position_or_len, Contains, AllPairs, list_any, HoldsAt, AllByRecursion, range_with_len, count_by}
pub use Rattle.std.specs.List.Sorted.{IsPermutation, IsNonDecreasing, IsNonDecreasingBy}
pub use Rattle.std.specs.Option.{option_map_or, option_eq, unwrap_or}
pub use Rattle.std.specs.Ordering.{nat_cmp, is_lt}
pub use Rattle.std.specs.declared.cmp.Reverse.{Reverse}
pub use Rattle.sas_answers.proofs.InitialLines.{initial_texts, initial_all, initial_next}
pub use Rattle.sas_answers.proofs.Pushed.{pushes_then, pushes_lost}
pub use Rattle.sas_answers.proofs.RuleLines.{same_is, is_same}
pub use Rattle.sas_answers.proofs.Sent.{writes_as, writes_by, writes_counting, ends_counting_as}
pub use Rattle.sas_answers.proofs.Texts.{text_of_each}
pub use Rattle.sas_answers.proofs.WordedLines.{worded}
pub use Rattle.sas_answers.specs.Answers.{VerdictAnswer, valid_by, valid_answer, invalid_answer}
pub use Rattle.sas_answers.specs.NumberedPlans.{AnswerFrom, RunAnswer, invalid_by_numbers}
pub use Rattle.sas_answers.specs.Ending.{output_of, Output, EndsCounting}
pub use Rattle.sas_answers.specs.Facts.{initial_lines, fact_line}
pub use Rattle.sas_answers.specs.Line.{is_rule_line, is_same_rule_line, rule_numbers, reasons_text}
pub use Rattle.sas_answers.specs.PlanWords.{fault_words, invalid_line}
pub use Rattle.sas_answers.specs.Sink.{Pushed, Pushes}
pub use Rattle.sas_answers.specs.Words.{line}
pub use Rattle.sas_answers.specs.declared.answer.Answer.{Answer}
pub use Rattle.sas_answers.specs.declared.ending.Status.{Status}
pub use Rattle.sas_answers.specs.declared.ending.ToolFault.{ToolFault}
pub use Rattle.sas_answers.specs.declared.sink.Sink.{Sink}
pub use Rattle.sas_answers.specs.declared.ending.Status.TheVariants.{Yes, No}
pub use Rattle.sas_answers.specs.declared.line.Line.{Line}
pub use Rattle.sas_answers.specs.declared.line.Line.TheVariants.{RuleDerives, RuleRequires, Requires, Actual, SinceStep, Step, ConflictingEffect, CouldBe, GoalFact, FailingGoalFacts, LaterFailures, LaterFailure, FailingGoalLater}
pub use Rattle.sas_axioms.proofs.RuleChanges.{same_option, change_within, conditions_within}
pub use Rattle.sas_axioms.proofs.RulesOf.{of_variable, can_of}
pub use Rattle.sas_axioms.specs.Conditions.{IsFullIndex, IsOfRule, waiting_at, asking, occurrences, released}
pub use Rattle.sas_axioms.specs.LayerRules.{IsRuleOn}
pub use Rattle.sas_axioms.specs.declared.conditions.RuleCondition.{RuleCondition}
pub use Rattle.sas_core.proofs.Places.{holds_at}
pub use Rattle.sas_core.specs.Changes.{change_of}
pub use Rattle.sas_core.specs.Grounded.{rule_at, effect_at, operator_at}
pub use Rattle.sas_core.specs.PlanParts.{PlanParts}
pub use Rattle.sas_core.specs.Stepwise.{step_at}
pub use Rattle.sas_core.specs.Variables.{IsDerived, IsState, FactExists, layer_of, value_name}
pub use Rattle.sas_core.specs.WellRanged.{WellRanged}
pub use Rattle.sas_core.specs.declared.grounded.Change.{Change}
pub use Rattle.sas_core.specs.declared.parts.Effect.{Effect}
pub use Rattle.sas_core.specs.declared.parts.Fact.{Fact}
pub use Rattle.sas_core.specs.declared.parts.Operator.{Operator}
pub use Rattle.sas_core.specs.declared.parts.Parts.{Parts}
pub use Rattle.sas_lines.proofs.EndedLines.{text_of_both}
pub use Rattle.sas_lines.specs.Lines.{text}
pub use Rattle.sas_meaning.proofs.Facts.{hold_or_not}
pub use Rattle.sas_meaning.proofs.Forced.{differs_not, differs_true, condition_within, fact_within}
pub use Rattle.sas_meaning.proofs.Layers.{layer_cases, layer_decides, given_on, given_off, one_layer, on_layer_within}
pub use Rattle.sas_meaning.proofs.Members.{contains_head, contains_tail, contains_cases, contains_none}
pub use Rattle.sas_meaning.proofs.Places.{takes, passes_by, place_is, is_place, places_ascend, places_to, places_one_more, places_all}
pub use Rattle.sas_meaning.proofs.Rules.{new_value_is}
pub use Rattle.sas_meaning.proofs.Unique.{differs_decides}
pub use Rattle.sas_meaning.specs.Following.{ListsDerived}
pub use Rattle.sas_meaning.specs.Layers.{IsOnLayer, default_of, CanFire, can_fire, IsLayered, IsBasic, LooksDown}
pub use Rattle.sas_meaning.specs.Places.{can_give, places_from, places}
pub use Rattle.sas_meaning.specs.Settled.{new_value_of, differs, IsSettled, value_with, is_on_layer, IsClosed, IsSettledAt}
pub use Rattle.sas_meaning.specs.States.{Holds, AllHold}
pub use Rattle.sas_meaning.specs.Settled.{Settles}
pub use Rattle.sas_meaning.specs.Steps.{Fires, Agree, preconditions}
pub use Rattle.sas_run.proofs.Choosing.{named_or_not, applicable_or_not}
pub use Rattle.sas_run.proofs.Determined.{leads_one_way}
pub use Rattle.sas_run.proofs.FollowingAnyway.{follows_one, follows_some, names_decide}
pub use Rattle.sas_run.proofs.Going.{MakesStep}
pub use Rattle.sas_run.proofs.GoingByNumbers.{goes_one_way, goes_one_more, goes_on, goes_none, leads_on_numbers}
pub use Rattle.sas_run.proofs.MadeSteps.{by_number, front, whole, stuck_at, named_ending, named_valid, named_faulty, numbered_valid, numbered_faulty}
pub use Rattle.sas_run.proofs.Giving.{not_both}
pub use Rattle.sas_run.proofs.PlanVerdicts.{some_verdict, valid_has_no_fault, fault_is_one}
pub use Rattle.sas_run.proofs.Ranges.{preconditions_within, effect_within}
pub use Rattle.sas_run.proofs.Runs.{some_run, one_run, leads_to_last, last_rests, operators_exist, to_fault, state_fits, run_goes, some_run_from, run_from}
pub use Rattle.sas_run.specs.Anyway.{AreNoted, Follows}
pub use Rattle.sas_run.specs.declared.anyway.Anyway.{Anyway}
pub use Rattle.sas_run.specs.ByNumbers.{GoesThrough, GoesThroughFrom}
pub use Rattle.sas_run.specs.Choosers.{HaveOperators, IsSolutionBy, IsFaultByOrMemory, EndsPlan, FailsNext, IsNumberChoice}
pub use Rattle.sas_run.specs.NumberFaults.{LeadsAsFar}
pub use Rattle.sas_run.specs.Starts.{IsStart, start_of}
pub use Rattle.sas_run.proofs.Observing.{goes_state}
pub use Rattle.sas_run.specs.Observing.{IsTold}
pub use Rattle.sas_names.specs.Named.{IsNamed}
pub use Rattle.sas_names.specs.Nameless.{is_nameless, nameless_steps}
pub use Rattle.sas_run.specs.Plans.{IsApplicable, LeadFrom, LeadsTo, IsValid}
pub use Rattle.sas_run.specs.Running.{IsChoice, IsLater, IsLaterIfAny, IsFinalVerdict, StepFailsBy}
pub use Rattle.sas_run.specs.declared.choice.Choice.{Choice}
pub use Rattle.sas_run.specs.Runs.{Run, last_state, state_at, StepsLead, StepsSucceed, IsRunFrom, names_of, steps_before, RunEndsWith, IsRunOf, IsEnding}
pub use Rattle.sas_run.specs.Verdicts.{IsFirstMissed, ComesTo, IsFaultOf}
pub use Rattle.sas_run.specs.declared.plan_check.Valid.{Valid}
pub use Rattle.sas_run.specs.declared.plan_check.PlanFault.{PlanFault}
pub use Rattle.sas_run.specs.declared.plan_check.PlanFault.TheVariants.{Memory, NoOperator, NotApplicable, Conflict, GoalMissed, CostDiffers}
pub use Rattle.sas_plan_reasons.specs.Cause.{fails, AreDerivationLines, since_line, missing_lines, IsCause, value_at, IsSince, failing_lines, can_be_given, keeping_lines}
pub use Rattle.sas_plan_reasons.specs.Conflicts.{first_on, AgreesWithFirst, AreFirstEffects}
pub use Rattle.sas_plan_reasons.specs.Derivation.{needs_rules, has_rule, CanBeAdded, IsOrder, IsRuleOf, DependsOn, Own, Below, InDerivation, StandsBefore, IsDerivation}
pub use Rattle.sas_plan_reasons.specs.Explanation.{lines_of_keepers, is_kept, ExplainsGivers, IsExplanation, IsBehind, ExplainsOnce, IsExplanationOf, AddsLines}
pub use Rattle.sas_plan_reasons.specs.Lines.{with_line, with_lines, LineThen, LinesOfEach}
pub use Rattle.sas_plan_reasons.specs.Lowest.{IsLowest, AreLowest}
pub use Rattle.sas_plan_reasons.specs.MayMean.{HaveNoNamesakes, similar_operator, IsOther, MayMean}
pub use Rattle.sas_plan_reasons.specs.Noting.{CanList, ListCoversChanges, ListsBelow, AddsOther, HasNoted}
pub use Rattle.sas_plan_reasons.specs.Retracing.{HavePlaces, NotedAt, LeftAt, Notes, change_text, AreFirstChanges, IsOtherIfAny, AreNameless, NotesAnyway, NotesAnywayIfAny, Retraces, ComesUnambiguously, HaveSince}
pub use Rattle.sas_plan_reasons.specs.Origins.{is_met, open_with, IsReady, IsOrdered, HasNoneOpen, AreOpen, AreOpenAtFirst, unmet, work_left, Closes, CanMeetAll, MeetsAll, Meets, giver_at, AreGivers, IsDerivedOrder, Builds, IsOrderSoFar, IsNext, is_explained, ArePlaces, HasRule, OriginsMatchState, AreOrigins, HasRuleBelow, IsExplainedOf, AreExplainedBelow, SameOrigins, unexplained, AddsRules, ExplainsDerivation}
pub use Rattle.sas_plan_reasons.specs.ReasonLaws.{replayed, RequiresLower, RestsOnEarlier, IsAlike, IsPermuted, IsSimilar, IsLowestIfAny}
pub use Rattle.sas_plan_reasons.specs.Words.{separates, parts, words, are_permuted}
pub use Rattle.sas_plan_reasons.specs.Similar.{AreSorted, IsSought, IsLikeness}
pub use Rattle.sas_plan_reasons.specs.Trace.{run_lines, changed, is_changed, change_line, change_lines, step_lines, step_line}
pub use Rattle.sas_plan_reasons.specs.Traced.{FaultAnswer, EndsWith, TraceVerdict}
pub use Rattle.sas_plan_reasons.specs.Verdict.{Explains, WhyVerdict, MakeAnswer}
pub use Rattle.sas_plan_reasons.specs.VerdictBy.{VerdictWith}
pub use Rattle.sas_plan_reasons.specs.WhyPlan.{FollowsAnyway, step_made, anyway_lines, AreAnywayLines, ConflictsWith, AreFailedPreconditionLines, AreConflictLines, AreGoalFactLines, cost_hint, cost_lines, first_nameless, nameless_step_lines, nameless_lines, some_similar, other_task_hint, AreCouldBeLines, AreFaultLines, IsWhy, AreOperatorLines, cost_lines_sum}
pub use Rattle.sas_plan_reasons.specs.declared.similar.Likeness.{Likeness}
pub use Rattle.sas_plan_reasons.specs.declared.similar.Likeness.TheVariants.{Same, Permuted, Other}
pub use Rattle.sas_plan_reasons.specs.declared.similar.Sought.{Sought}
pub use Rattle.sas_plan_reasons.specs.declared.changes.Changes.{Changes}
pub use Rattle.sas_plan_reasons.specs.declared.order.DerivedOrder.{DerivedOrder}
pub use Rattle.sas_plan_reasons.specs.declared.order.OpenConditions.{OpenConditions}
pub use Rattle.sas_plan_reasons.specs.declared.order.OrderSoFar.{OrderSoFar}
pub use Rattle.sas_plan_reasons.specs.declared.origins.Origins.{Origins}
pub use Rattle.sas_plan_reasons.specs.declared.history.OtherOperator.{OtherOperator}
pub use Rattle.sas_plan_reasons.specs.declared.history.Historian.{Historian}
pub use Rattle.sas_plan_reasons.specs.declared.history.PlanHistory.{PlanHistory}
pub use Rattle.sas_plan_reasons.specs.declared.nameless.NamelessSteps.{NamelessSteps}
pub use Rattle.sas_plan_reasons.specs.declared.listing.Listing.{Listing}
pub use Rattle.sas_plan_reasons.specs.declared.tracing.Tracer.{Tracer}
pub use Rattle.sas_plan_reasons.specs.Tracing.{HasTraced, sink_of}
pub use Rattle.sas_plan_reasons.specs.declared.tracing.Printed.{Printed}
pub use Rattle.sas_names.specs.Chains.{IsChain, AreStepOperators}
pub use Rattle.sas_names.specs.Names.{IsNextNamed, IsLowestNamed, existing, AreFirsts}
pub use Rattle.sas_plan_reasons.specs.declared.causes.Explanation.{Explanation}
pub use Rattle.sas_core.specs.Tasks.{cost_of}
pub use Rattle.std.specs.Prelude.{sum_by, IsSomeAnd}
pub use Rattle.sas_answers.specs.Wording.{steps_of}

-- What the proofs use of other crates, and of the definitions of this one.
pub use Rattle.std.proofs.Common.{◌≡◌, ℕ, List, ap, sym, subst, ◌∙◌, Option, Some, None, Result, Ok, Err, IfOk, ◌≢◌, ◌<◌, ◌⊎◌, [], ◌∷◌, ◌++◌, length, codes, get_or, arith, refl, inl, inr, option_map, append-nil, ◌+◌, ◌≤◌, Bool, true, false, ◌==◌, if◌then◌else◌, length-append, decimal, ◌↔◌, ◌||◌, IsTrue, ◌/◌, ◌%◌, flat_map, not, nat_lt, ◌&&◌, ◌-◌, take, drop, append_assoc, eqb-true, nat_eq, rules, is_some, option_and_then, IsErrOf, IsSomeAnd, map, suc, filter, ◌^◌, zero, ◌*◌, slice_get, Bor, All, slice_index_or, zip, cond, eqb, IfErr, IfSome, count_by, min, add-one, IsErrAnd}
pub use Rattle.std.proofs.KnownBytes.{Consumes-nil}
pub use Rattle.std.proofs.Math.ListN.{get_or-map, get_or-append}
pub use Rattle.std.proofs.Math.Nat.{mul-le-mul_left, le-min, min-le_left}
pub use Rattle.std.proofs.Math.Seq.{drop-append_seam, get_or-append_seam}
pub use Rattle.std.proofs.lemmas.Bool.{false≢true, and_from, ne_eqb, ltb-true, ltb-false, cases_lt, lt-ltb}
pub use Rattle.std.proofs.lemmas.Fmt.{length-decimal-le}
pub use Rattle.std.proofs.lemmas.Grind.{elements, common_steps, flat_map-append}
pub use Rattle.std.proofs.lemmas.List.{append_cancel_left, take-append-drop, take_all, map-append, length-map, append_cancel_right, length_push, same_from_push}
pub use Rattle.std.proofs.lemmas.List.Elements.{Contains-append_cases, All-nil, All-cons, All-head, All-tail, All-same, All-append, All-push, All-weaker, All-contains, Contains-append_right, Contains-append_left, Contains-push, All-get_or, All-from_get_or, Contains-get_or, All-map}
pub use Rattle.std.proofs.lemmas.List.Folds.{flat_map-map}
pub use Rattle.std.proofs.lemmas.List.FromFn.{length-enumerate_from}
pub use Rattle.std.proofs.lemmas.List.Sums.{count_by_more_no, count_by_more_yes, count_by-le-length, AllPass-from_list_all, list_all-from_AllPass, sum_by-cons, sum_by_push}
pub use Rattle.std.proofs.lemmas.Option.{none-some, slice_get-get_or, same_Some}
pub use Rattle.std.proofs.lemmas.Result.{err_from_is_err_and}
pub use Rattle.std.proofs.lemmas.Slice.Zip.{length-zip, get_or-zip, AllZip-long}
pub use Rattle.std.specs.Cmp.Lexicographic.{pointwise, same_text, other_text}
pub use Rattle.std.specs.Fmt.{digits_onto, digit_glyph}
unfoldable pub use Rattle.std.specs.Fmt.{digits}
pub use Rattle.std.specs.Io.KnownBytes.{Appends, Consumes, IsAtEnd}
pub use Rattle.std.specs.List.{list_all, AllByRecursion, Contains, enumerate_from, AllZip}
pub use Rattle.std.specs.Option.{option_map_or, unwrap_or}
pub use Rattle.sas_answers.proofs.AnswerLaws.{OneAnswer, SomeAnswer}
pub use Rattle.sas_answers.proofs.CheckAnswers.{some_check_answer, layered_answer, one_check_answer}
pub use Rattle.sas_answers.proofs.InitialLines.{initial_texts, initial_all, initial_next, initial_text, initial_is}
pub use Rattle.sas_answers.proofs.MutexAnswers.{groups_answered, one_mutex_answer, some_mutex_answer}
pub use Rattle.sas_answers.proofs.PlainLines.{number, number_then, two, is_reason_line}
pub use Rattle.sas_answers.proofs.ShownTexts.{shown_plain}
pub use Rattle.sas_answers.proofs.Pushed.{pushes_item, pushes_then}
pub use Rattle.sas_answers.proofs.Sent.{counting_ends, ends_by, exact_ends, writes_by, writes_as, writes_counting, writes_answers, answers_by}
pub use Rattle.sas_answers.proofs.VerdictAnswers.{one_verdict_answer, some_verdict_answer}
pub use Rattle.sas_answers.proofs.WordedLines.{worded}
pub use Rattle.sas_answers.specs.Answers.{valid_answer, VerdictAnswer, layers_refusal, layers_verdict, GroupsAnswer, LayeredGroupsAnswer, MutexAnswer, CheckAnswer, invalid_answer}
pub use Rattle.sas_answers.specs.Ending.{Output, Ends, EndsCounting, IsDecided, Writes, Answers, output_of, IsWrite}
pub use Rattle.sas_answers.specs.Facts.{fact_line, initial_lines}
pub use Rattle.sas_answers.specs.GroupWords.{group_line, verdict_lines_from, verdict_lines, groups_status, verdict_words}
pub use Rattle.sas_answers.specs.Laws.{IsReasonLine}
pub use Rattle.sas_answers.specs.LayerWords.{layer_words, layers_line, words_at_part}
pub use Rattle.sas_answers.specs.Line.{line_bytes, reasons_text}
pub use Rattle.sas_answers.specs.PlanWords.{fault_words, invalid_line, step_words}
pub use Rattle.sas_answers.specs.ValidLine.{valid_line}
pub use Rattle.sas_answers.specs.Sink.{Pushes}
pub use Rattle.sas_answers.specs.declared.answer.Answer.{Answer}
pub use Rattle.sas_answers.specs.declared.ending.Status.{Status}
pub use Rattle.sas_answers.specs.declared.ending.Status.TheVariants.{Yes, No}
pub use Rattle.sas_answers.specs.declared.ending.ToolFault.{ToolFault}
pub use Rattle.sas_answers.specs.declared.line.Line.{Line}
pub use Rattle.sas_core.proofs.Plain.{plain-append, plain-name}
pub use Rattle.sas_core.specs.FirstFault.{first_fault}
pub use Rattle.sas_core.specs.Names.{is_plain, IsName}
pub use Rattle.sas_core.specs.Plain.{IsPlain}
pub use Rattle.sas_core.specs.WellRanged.{VariableFits, OperatorFits}
pub use Rattle.sas_core.specs.declared.parts.Operator.{Operator}
pub use Rattle.sas_core.specs.Grounded.{operator_at}
pub use Rattle.sas_core.specs.PlanParts.{PlanParts}
pub use Rattle.sas_core.specs.WellNamed.{WellNamed}
pub use Rattle.sas_core.specs.Variables.{layer_of, value_name}
pub use Rattle.sas_core.specs.WellRanged.{WellRanged}
pub use Rattle.sas_core.specs.declared.parts.Fact.{Fact}
pub use Rattle.sas_core.specs.declared.parts.Parts.{Parts}
pub use Rattle.sas_core.specs.declared.parts.Variable.{Variable}
pub use Rattle.sas_flat.specs.Outlines.{outline_of}
pub use Rattle.sas_flat.specs.declared.outline.Outline.{Outline}
pub use Rattle.sas_groups.proofs.JointLists.{listed_invariants}
pub use Rattle.sas_groups.specs.Verdicts.{AreJointVerdicts}
pub use Rattle.sas_groups.specs.declared.verdict.Verdict.{Verdict}
pub use Rattle.sas_groups.specs.declared.verdict.Verdict.TheVariants.{Exclusive, Derived, Initial, Broken}
pub use Rattle.sas_lines.proofs.EndedLines.{text_of_both}
pub use Rattle.sas_lines.proofs.Splitting.{Plain, lines-text, lines-append, unfinished-text, unfinished-end, lines-one}
pub use Rattle.sas_lines.proofs.Words.{same_first, NoSpace-decimal, own_decimal}
pub use Rattle.sas_lines.specs.Device.{Device}
pub use Rattle.sas_lines.specs.Lines.{text, lines_among, without_return}
unfoldable pub use Rattle.sas_lines.specs.Lines.{lines, unfinished}
pub use Rattle.sas_lines.specs.Segments.{onto_first}
unfoldable pub use Rattle.sas_lines.specs.Segments.{segments}
pub use Rattle.sas_lines.specs.Spelling.{joined}
pub use Rattle.sas_meaning.proofs.LayerChecksAreRules.{checks_are_rules}
pub use Rattle.sas_meaning.proofs.Members.{contains_cases, contains_head, contains_none, contains_tail}
pub use Rattle.sas_meaning.specs.LayerChecks.{layer_checks}
pub use Rattle.sas_meaning.specs.Layers.{IsLayered}
pub use Rattle.sas_meaning.specs.declared.layered.LayerFault.{LayerFault}
pub use Rattle.sas_plan_file.proofs.PlanGrammar.{plan_grammar}
pub use Rattle.sas_plan_file.proofs.PlanLaws.{plan_laws_hold}
pub use Rattle.sas_plan_file.specs.PlanFormat.{plan_texts, plan_format, PlanKind, PlanLineFits, like_step, like_cost, like_none}
pub use Rattle.sas_plan_file.specs.PlanMachine.{plan_node, plan_start}
pub use Rattle.sas_plan_file.specs.PlanRefusal.{fault_of, found_of, TellsLacks, ReadsPlan}
pub use Rattle.sas_plan_file.specs.PlanEnds.{LacksCostLine, EndsWithoutCost}
pub use Rattle.sas_plan_file.specs.declared.plan_refusal.PlanRefusal.{PlanRefusal}
pub use Rattle.sas_plan_reasons.proofs.Answering.{some_trace, one_trace, ends_with_answer, some_fault_answer, one_fault_answer}
pub use Rattle.sas_plan_reasons.specs.VerdictBy.{VerdictBy, VerdictWith}
pub use Rattle.sas_plan_reasons.proofs.WhyPlan.{one_why, some_why}
pub use Rattle.sas_plan_reasons.specs.Trace.{run_lines, step_line, step_lines, change_line}
pub use Rattle.sas_run.specs.Runs.{Run, state_at}
pub use Rattle.sas_plan_reasons.specs.Traced.{FaultAnswer, TraceVerdict, EndsWith}
pub use Rattle.sas_plan_reasons.specs.Verdict.{WhyVerdict, Explains}
pub use Rattle.sas_reader.proofs.About.{about_laws_of}
pub use Rattle.sas_plan_file.proofs.PlanCosts.{ends_without_cost}
pub use Rattle.sas_reader.proofs.LineEnds.{ends_unended}
pub use Rattle.sas_reader.proofs.Known.{known_answer, known_fault}
pub use Rattle.sas_reader.proofs.KnownRefusals.{known_explained}
pub use Rattle.sas_reader.proofs.Plain.{plain-decimal, plain}
pub use Rattle.sas_reader.specs.About.{ConcernsText, AboutLaws, EndsUnended, IsAbout, of_line, of_byte, of_end}
pub use Rattle.sas_reader.specs.Devices.{Refuses, ReadsAll, ValueOf, TextOf}
pub use Rattle.sas_reader.specs.Format.{Format, IsBegun, LacksLineEnd, ReadsAs, FaultOf, KindAt, too_long, trailing, wrong}
pub use Rattle.sas_reader.specs.Found.{IsFoundOf, kept_bytes}
pub use Rattle.sas_reader.specs.Laws.{Laws}
pub use Rattle.sas_reader.specs.Limit.{most_bytes}
pub use Rattle.sas_reader.specs.Refusals.{ExplainsRefusal, ReadsOrExplains}
pub use Rattle.sas_reader.specs.Texts.{Reads}
pub use Rattle.sas_reader.specs.declared.fault.Fault.{Fault}
pub use Rattle.sas_reader.specs.declared.fault.Kind.{Kind}
pub use Rattle.sas_reader.specs.declared.fault.Kind.TheVariants.{TooLong, Read, Memory}
pub use Rattle.sas_reader.specs.declared.found.Excerpt.{Excerpt}
pub use Rattle.sas_run.proofs.PlanVerdicts.{some_verdict, valid_has_no_fault, fault_is_one}
pub use Rattle.sas_run.specs.Plans.{IsValid}
pub use Rattle.sas_run.specs.Verdicts.{IsFaultOf}
pub use Rattle.sas_run.specs.declared.plan_check.PlanFault.{PlanFault}
pub use Rattle.sas_task_file.proofs.CountLaws.{one_count, some_count}
pub use Rattle.sas_task_file.proofs.MarkLaws.{one_task_reason}
pub use Rattle.sas_task_file.proofs.SomeReason.{some_task_reason}
pub use Rattle.sas_task_file.proofs.TaskGrammar.{task_grammar}
pub use Rattle.sas_task_file.proofs.TaskLaws.{task_laws_hold}
pub use Rattle.sas_task_file.proofs.TaskSections.{less, is_less, all_map}
pub use Rattle.sas_task_file.specs.Marks.{fixed_word_bytes}
pub use Rattle.sas_task_file.specs.TaskStates.{table_node, table_start}
pub use Rattle.sas_task_file.specs.TaskFormat.{task_texts, task_format, TaskSlot, word_slot, name_slot, number_slot, signed_slot, fact_slot, effect_slot, head_slot, NumbersKind, no_shape, no_value, TaskLineFits, TaskLine, word, name, signed, fact, task_line_bytes, single_line, between, counted, version_lines, metric_lines, variable_lines, group_lines, state_lines, operator_lines, rule_lines, task_layout}
pub use Rattle.sas_task_file.specs.declared.marks.Due.{Due}
pub use Rattle.sas_task_file.specs.declared.marks.FixedWord.{FixedWord}
pub use Rattle.sas_task_file.specs.declared.marks.Location.{Location}
pub use Rattle.sas_task_file.specs.declared.marks.What.{What}
pub use Rattle.sas_task_reader.specs.TaskOutline.{OutlineOf}
pub use Rattle.sas_task_reader.specs.TaskRefusal.{fault_in, found_in, HasReason, ReadsTask}
pub use Rattle.sas_task_reader.specs.declared.task_refusal.TaskRefusal.{TaskRefusal}
pub use Rattle.sas_task_reasons.proofs.GroupAnswers.{no_reason}
pub use Rattle.sas_task_reasons.proofs.TaskAnswers.{not_memory, one_why_check, some_why_check, one_why_mutex, some_why_mutex, check_layered, check_refused, groups_layered, groups_refused, refused_why}
pub use Rattle.sas_task_reasons.specs.WhyGroups.{IsReasonIfAny, reason_at, AreReasons, reason_lines, explained_group_lines, why_lines_from, why_lines, WhyGroupsAnswer, GroupsAnswerWith}
pub use Rattle.sas_task_reasons.specs.WhyLayers.{layer_reasons, why_refusal, WhyAnswer, WhyMutexAnswer, with_reasons, WhyCheckAnswer}
pub use Rattle.sas_task_reasons.specs.declared.reason.Reason.{Reason}
pub use Rattle.sas_requests.specs.Answering.{FileBy, TaskBy, PlanBy, UnlayeredBy, refusal_by, task_refusal_lines, plan_refusal_lines, explained_by}
pub use Rattle.sas_requests.specs.EndsRequest.{EndsFile, EndsRequest}
pub use Rattle.sas_requests.specs.FileLine.{At, Counted, Expected, ExpectedInPlan, FileLine, Found, Hinted, NumberMustBe, due_words, empty_words, ended_line, file_line_bytes, file_text, found_word, least_words, line_if, location_words, plan_due_words, what_words}
pub use Rattle.sas_requests.specs.Hint.{hint_words, hint_for}
pub use Rattle.sas_requests.specs.declared.hint.Hint.{Hint}
pub use Rattle.sas_requests.specs.FileReasons.{FaultReasons, reported, past_limit, FileReasons, AreTaskReasons, ArePlanReasons, RefusalReasons, ReadReasons, TaskFileReasons, PlanFileReasons}
pub use Rattle.sas_requests.specs.Headline.{Solves, Headline}
pub use Rattle.sas_requests.specs.Invariants.{HasInvariant, Invariants}
pub use Rattle.sas_requests.specs.InTurn.{IsRightlyLong, OpensFirst, OpensInTurn, EndsAt, IsOpened, IsOpenedBut}
pub use Rattle.sas_requests.specs.Inputs.{HaveBytes, tool_result, judge_result, IsLabel, WasRead, WereRead, tool_fault}
pub use Rattle.sas_requests.specs.Judged.{EachIsThatOfPlan, HasBest, HasCost, IsBest, IsJudged, IsOneLong, JudgeOut, Judged, PlansOut, RefusesAsPlan, Tallies, AreNoReasons, EndsPlans, PlanSaid, SamePlans, best_words, costs_of, labelled, plans_answer, summary_of, unexplained, untraced, PlansHeadline}
pub use Rattle.sas_requests.specs.Judging.{HoldsOf, judged_of, cost_if, Judges, IsUnsaid, unjudged, is_lower, better, tally_with, AreAnswered, JudgesPlans}
pub use Rattle.sas_requests.specs.Output.{word_of, refusal, refusal_line, IsAnswerOrRefusal, UnlayeredAnswer, VerdictOut, PlanOutBy, FileOut, TaskOut, HasOneOutput, ShowAnswer, PrintAnswer, LayeredOut, OutOf, plain_refusal, IsLayeredText, IsLong, AreInputs, reads_task, Out, ShortOutput}
pub use Rattle.sas_requests.specs.Slices.{bytes_of, labels_of}
pub use Rattle.sas_requests.specs.Summary.{number_lines, goal_fact_lines, summary_lines, derived_count, number_line}
pub use Rattle.sas_requests.specs.OutBy.{CheckBy, MutexBy, layers_by, WithReasons, ReasonedBy, OutOfRead, OutBy, EndsInLine, SaysLine, SendsLine}
pub use Rattle.sas_requests.specs.SameAnswer.{is_reason, without_reasons, IsSameAnswer, SameAnswer, EndsAsPlan}
pub use Rattle.sas_requests.specs.declared.question.Request.{Request}
pub use Rattle.sas_requests.specs.declared.question.Request.TheVariants.{Show, Print, Steps, Check, Plan, Mutex}
pub use Rattle.sas_requests.specs.declared.inputs.InputFault.TheVariants.{NotOpened}
pub use Rattle.sas_requests.specs.declared.inputs.JudgeFault.{JudgeFault}
pub use Rattle.sas_requests.specs.declared.inputs.JudgeFault.TheVariants.{Tool}
pub use Rattle.sas_plan_reasons.specs.declared.detail.Detail.{Detail}
pub use Rattle.sas_requests.specs.declared.slices.PlanBytes.{PlanBytes}
pub use Rattle.sas_requests.specs.declared.tally.BestPlan.{BestPlan}
pub use Rattle.sas_requests.specs.declared.tally.Tally.{Tally}
pub use Rattle.sas_requests.specs.declared.verdicts.PlanAnswer.{PlanAnswer}
pub use Rattle.sas_requests.specs.declared.verdicts.Judge.{Judge}

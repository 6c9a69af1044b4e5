-- What the proofs use of other crates, and of the definitions of this one.
pub use Rattle.std.proofs.Common.{◌≡◌, ℕ, ◌<◌, ◌≤◌, ◌⊎◌, List, [], ◌∷◌, length, Some, refl, sym, ◌∙◌, ap, subst, inl, inr, arith, suc, ◌+◌, Bool, true, false, ◌++◌, get_or, flat_map, Option, None, if◌then◌else◌, IsTrue, IsFalse, zero, ◌==◌, eqb-true, eq-eqb, find, ◌&&◌, not, is_some, slice_index, take, append_assoc, append-nil, ◌≢◌, cond, position, nat_lt, option_map, IsSome, codes, decimal, rules, IsSomeAnd, drop}
pub use Rattle.std.proofs.lemmas.Bool.{cases_eq, cases_lt, true≢false, lt-ltb, cases_Bool, ltb-true}
pub use Rattle.std.proofs.lemmas.List.{ext_get_or, length_push, get_or_push, get_or_append_left, take_more, take_all, length-take}
pub use Rattle.std.proofs.lemmas.List.Elements.{All-contains}
pub use Rattle.std.proofs.lemmas.List.Folds.{find_at}
pub use Rattle.std.proofs.lemmas.List.Sums.{fails_before_first, passes_at_first, position_or_len_is}
pub use Rattle.std.proofs.lemmas.Option.{slice_get-get_or, none-some}
pub use Rattle.std.specs.List.{enumerate_from, All, position_or_len}
pub use Rattle.std.specs.Option.{option_map_or}
pub use Rattle.sas_answers.proofs.AnswerLaws.{OneAnswer, SomeAnswer}
pub use Rattle.sas_answers.proofs.CheckAnswers.{some_check_answer}
pub use Rattle.sas_answers.specs.Answers.{layers_refusal, layers_verdict}
pub use Rattle.sas_answers.specs.GroupWords.{group_line, groups_status, verdict_lines_from}
pub use Rattle.sas_core.specs.FirstFault.{Check, first_fault, check}
pub use Rattle.sas_core.specs.Grounded.{effect_at, group_at, operator_at, rule_at}
pub use Rattle.sas_core.specs.Variables.{layer_of}
pub use Rattle.sas_core.specs.declared.grounded.Change.{Change}
pub use Rattle.sas_core.specs.declared.parts.Effect.{Effect}
pub use Rattle.sas_core.specs.declared.parts.Fact.{Fact}
pub use Rattle.sas_core.specs.declared.parts.Operator.{Operator}
pub use Rattle.sas_core.specs.declared.parts.Parts.{Parts}
pub use Rattle.sas_core.proofs.SameParts.{fact_same}
pub use Rattle.sas_groups.proofs.JointLists.{one_list, some_list}
pub use Rattle.sas_groups.proofs.JointVerdicts.{same_or_itself}
pub use Rattle.sas_groups.specs.Clashes.{Keeps}
pub use Rattle.sas_groups.specs.Families.{IsGroupOfOr, IsOnBasic}
pub use Rattle.sas_groups.specs.Groups.{IsExclusiveIn}
pub use Rattle.sas_groups.specs.Verdicts.{verdict_at, AreJointVerdicts, IsJointVerdict}
pub use Rattle.sas_groups.specs.declared.verdict.Verdict.{Verdict}
pub use Rattle.sas_groups.specs.declared.verdict.Verdict.TheVariants.{Exclusive, Derived, Initial, Broken}
pub use Rattle.sas_lines.specs.Lines.{text}
pub use Rattle.sas_meaning.proofs.Forced.{fact_within}
pub use Rattle.sas_meaning.proofs.LayerChecksAreRules.{checks_are_rules}
pub use Rattle.sas_meaning.proofs.RuleTests.{fires, agrees_with_earlier}
pub use Rattle.sas_meaning.specs.LayerChecks.{numbered_checks, agrees_with, layer_checks, effect_layer_checks, operator_layer_checks, looks_down, firing_checks, rule_layer_checks}
pub use Rattle.sas_meaning.specs.Layers.{CanFire, can_fire, IsLayered, default_of}
pub use Rattle.sas_meaning.specs.States.{Holds}
pub use Rattle.sas_meaning.specs.declared.layered.LayerFault.{LayerFault}
pub use Rattle.sas_meaning.specs.declared.layered.LayerFault.TheVariants.{Memory, EffectOnDerived, RuleOnBasic, OldValue, TwoValues, LayerOrder}
pub use Rattle.sas_mutex.proofs.Failing.{fails_not_kept, some_failure, some_first, one_first, first_too}
pub use Rattle.sas_mutex.proofs.TaskFacts.{group_facts}
pub use Rattle.sas_mutex.specs.Failures.{IsFailure, IsFirstFailure, FailsFirst}
pub use Rattle.sas_mutex.specs.declared.failures.Failure.{Failure}
pub use Rattle.sas_answers.proofs.Pushed.{pushes_then}
pub use Rattle.sas_answers.proofs.Sent.{ends_counting_as, writes_as}
pub use Rattle.sas_lines.proofs.EndedLines.{text_of_both}
pub use Rattle.sas_answers.specs.Ending.{Output, output_of}
pub use Rattle.sas_answers.specs.Line.{reasons_text}
pub use Rattle.sas_answers.specs.Sink.{Pushes}
pub use Rattle.sas_answers.specs.declared.ending.Status.{Status}
pub use Rattle.sas_answers.specs.declared.line.Line.{Line}
pub use Rattle.sas_task_reasons.specs.ReasonLaws.{IsOtherGiver, IsNamedOther, IsNamedOld, IsWhole, LayerReasonsAreWhole}
pub use Rattle.sas_task_reasons.specs.WhyGroups.{verdict_of, IsReasonIfAny, reason_at, AreReasons, holds, TrueOfGroup, IsReason, why_lines, WhyGroupsAnswer, explained_group_lines, why_lines_from, GroupsAnswerWith}
pub use Rattle.sas_task_reasons.specs.WhyLayers.{layer_reasons, with_reasons, why_refusal, WhyAnswer, WhyCheckAnswer, WhyMutexAnswer}
pub use Rattle.sas_task_reasons.specs.declared.reason.Reason.{Reason}
pub use Rattle.sas_task_reasons.specs.declared.reason.Reason.TheVariants.{OnDerived, HoldsTwo, Breaks}

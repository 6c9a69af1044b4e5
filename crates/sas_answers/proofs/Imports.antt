-- What the proofs use of other crates, and of the definitions of this one.
pub use Rattle.std.proofs.Common.{◌≡◌, ◌⊎◌, inl, inr, ℕ, List, [], ◌∷◌, ◌++◌, length, flat_map, take, ◌≤◌, refl, ap, ◌∙◌, ◌+◌, ◌/◌, ◌%◌, ◌<◌, set, append_assoc, length-append, arith, sym, subst, Option, Some, None, zero, suc, ◌-◌, get_or, IsTrue, not, ◌==◌, if◌then◌else◌, codes, slice_get, append-nil, true, false, ◌^◌, drop, min, Bool, Result, Ok, Err, ◌↔◌, bytes_eq, take_at, map, replicate, rules, MutBor, zero-add, option_map, ◌&&◌, ◌*◌, ◌≢◌, eqb-true, nat_eq, nat_lt, ltb-true, lt-ltb}
pub use Rattle.std.proofs.KnownBytes.{Appends-trans}
pub use Rattle.std.proofs.Math.ListN.{length-set}
pub use Rattle.std.proofs.lemmas.Bool.{and_parts, and_from, eq-eqb, ne_eqb, le-ltb, false≢true}
pub use Rattle.std.proofs.lemmas.Fmt.{decimal_digit, decimal_step}
pub use Rattle.std.proofs.lemmas.Grind.{take-set_at, flat_map-append, common_steps}
pub use Rattle.std.proofs.lemmas.List.{take_all, length-take-le, take-take, take-append-le, take_more, take-append-drop, length-drop, length-take}
pub use Rattle.std.proofs.lemmas.List.Folds.{flat_map-map, list_all_more}
pub use Rattle.std.proofs.lemmas.List.FromFn.{length-enumerate_from, get_or-enumerate_from}
pub use Rattle.std.proofs.lemmas.Option.{none-some}
pub use Rattle.std.proofs.lemmas.Result.{err_from_is_err_and}
pub use Rattle.std.proofs.lemmas.Slice.Eq.{bytes_eq-Decides}
pub use Rattle.std.specs.Fmt.{decimal}
pub use Rattle.std.specs.Io.KnownBytes.{Appends}
pub use Rattle.std.specs.List.{AllByRecursion, list_all, enumerate_from}
pub use Rattle.std.specs.Option.{unwrap_or}
pub use Rattle.std.specs.Prelude.{⊤, IfErr, IsErrOf, MatchResult}
pub use Rattle.itoa.proofs.Decimal.{decimal_pair, pair}
pub use Rattle.sas_core.proofs.Plain.{plain_without, plain-append}
pub use Rattle.sas_core.specs.Changes.{change_of, fact_of}
pub use Rattle.sas_core.specs.FirstFault.{Check, first_fault, check}
pub use Rattle.sas_core.specs.Grounded.{operator_at, effect_at, rule_at}
pub use Rattle.sas_core.specs.Names.{is_plain}
pub use Rattle.sas_core.specs.Plain.{IsPlain}
pub use Rattle.sas_core.specs.PlanParts.{PlanParts}
pub use Rattle.sas_core.specs.Variables.{value_name}
pub use Rattle.sas_core.specs.WellRanged.{VariableFits, OperatorFits, WellRanged}
pub use Rattle.sas_core.specs.declared.parts.Effect.{Effect}
pub use Rattle.sas_core.specs.declared.parts.Fact.{Fact}
pub use Rattle.sas_core.specs.declared.parts.Operator.{Operator}
pub use Rattle.sas_core.specs.declared.parts.Parts.{Parts}
pub use Rattle.sas_core.specs.declared.parts.Variable.{Variable}
pub use Rattle.sas_groups.proofs.JointLists.{one_list, some_list}
pub use Rattle.sas_groups.specs.declared.verdict.Verdict.{Verdict}
pub use Rattle.sas_lines.proofs.EndedLines.{text_of_both}
pub use Rattle.sas_lines.proofs.Words.{Without-decimal, NoSpace, words-first, same_first, NoSpace-decimal, own_decimal}
pub use Rattle.sas_lines.specs.Device.{Device}
pub use Rattle.sas_lines.specs.Lines.{text}
unfoldable pub use Rattle.sas_lines.specs.Segments.{segments}
pub use Rattle.sas_lines.specs.Spelling.{joined}
pub use Rattle.sas_lines.specs.declared.devices.Short.{Short}
pub use Rattle.sas_meaning.proofs.LayerChecksAreRules.{checks_are_rules}
pub use Rattle.sas_meaning.specs.LayerChecks.{effect_layer_checks, operator_layer_checks, firing_checks, rule_layer_checks, layer_checks}
pub use Rattle.sas_meaning.specs.Layers.{can_fire, IsLayered}
pub use Rattle.sas_meaning.specs.declared.layered.LayerFault.{LayerFault}
pub use Rattle.sas_run.proofs.PlanVerdicts.{some_verdict, valid_has_no_fault, fault_is_one}
pub use Rattle.sas_run.specs.Verdicts.{IsFaultOf}
pub use Rattle.sas_run.specs.declared.plan_check.PlanFault.{PlanFault}
pub use Rattle.sas_run.specs.declared.plan_check.PlanFault.TheVariants.{NoOperator, NotApplicable, Conflict, GoalMissed, CostDiffers}
pub use Rattle.sas_answers.specs.Answers.{layers_refusal, layers_verdict, CheckAnswer, GroupsAnswer, LayeredGroupsAnswer, MutexAnswer, valid_answer, invalid_answer, VerdictAnswer}
pub use Rattle.sas_answers.specs.Ending.{Output, StopsAt, Ends, EndsCounting, IsWrite, Writes, Answers}
pub use Rattle.sas_answers.specs.Facts.{fact_line, initial_lines}
pub use Rattle.sas_answers.specs.GroupWords.{verdict_lines, groups_status}
pub use Rattle.sas_answers.specs.Laws.{IsReasonLine}
pub use Rattle.sas_answers.specs.Shown.{hex_digit_of, in_digits, is_plain_byte, shown_byte, shown_whole, shown, shown_name}
pub use Rattle.sas_core.specs.LineNumbers.{operator_line, rule_line}
pub use Rattle.std.proofs.Math.Seq.{drop-append_seam}
pub use Rattle.std.specs.Cmp.Lexicographic.{pointwise, same_text, other_text}
pub use Rattle.sas_answers.specs.Line.{line_bytes, words_of, named_effect, named_words, named_operator, rule_words, rule_numbers, is_rule_line, is_same_rule_line}
pub use Rattle.sas_answers.specs.Pieces.{Piece, Puts, Breaks, CountsOn}
pub use Rattle.sas_answers.specs.Placing.{Places, PlacesOrLeaves}
pub use Rattle.sas_answers.specs.Sink.{empty_piece, Pushed, PushedBy, Pushes}
pub use Rattle.sas_answers.specs.Wording.{steps_of}
pub use Rattle.sas_answers.specs.Words.{line, word_bytes, behind_space, words_line}
pub use Rattle.sas_answers.specs.declared.ending.Status.{Status}
pub use Rattle.sas_answers.specs.declared.ending.Status.TheVariants.{Yes, No}
pub use Rattle.sas_answers.specs.declared.ending.ToolFault.{ToolFault}
pub use Rattle.sas_answers.specs.declared.ending.ToolFault.TheVariants.{Memory, Read, TooLong, Write}
pub use Rattle.sas_answers.specs.declared.line.Line.{Line}
pub use Rattle.sas_answers.specs.declared.line.Line.TheVariants.{Step, SimilarOperator, NamedOperator, GoalFact, Requires, Actual, SinceInitialState, SinceStep, RuleDerives, NoRuleDerives, RuleRequires, ConflictingEffect, Metric, Steps, CostLines, CouldBe, EffectSets, Rule, ConditionRequires, OldValue, DefaultValue, OnLayer, Derived, Holds, MayRemain, NamelessSteps, OtherTaskHint, LaterFailures, LaterFailure, FailingGoalLater, FailingGoalFacts, UnitCostHint, CostLineHint}
pub use Rattle.sas_answers.specs.declared.sink.Sink.{Sink}
pub use Rattle.sas_answers.specs.declared.words.Word.{Word}
pub use Rattle.sas_answers.specs.declared.words.Word.TheVariants.{Text}
pub use Rattle.sas_answers.specs.declared.words.Words.{Words}

-- What the proofs use of other crates, and of the definitions of this one.
pub use Rattle.std.proofs.Common.{◌≡◌, Bool, List, [], ◌∷◌, ◌++◌, map, refl, sym, subst, ◌∙◌, ℕ, zero, suc, length, ap, slice_get, Some, None, true, ◌⊎◌, inl, inr, Option, IsTrue, codes, nat_lt, ◌==◌, slice_index, append_assoc, ◌+◌, ◌≤◌, length-append, arith, IsSome, ◌<◌, false, rules, if◌then◌else◌, ◌-◌, slice_index_or, ◌*◌, ◌^◌, take, drop, get_or, not, ◌&&◌, ◌/◌, ◌%◌, ◌≢◌, ap₂}
pub use Rattle.std.proofs.lemmas.Bool.{ltb-true, eqb-true, and_from, and_parts}
pub use Rattle.std.proofs.lemmas.Bool.Decides.{eqb_tells, nat_tests, Decides-eqb}
pub use Rattle.std.proofs.lemmas.Fmt.{decimal_digit, decimal_injective, decimal_step}
pub use Rattle.std.proofs.lemmas.Grind.{flat_map-append, common_steps}
pub use Rattle.std.proofs.lemmas.List.{append-nil, map-append, length-map, get_or-append-add, length-take-le, take_rest, get_or-take, take-append-drop, drop-drop, take_more}
pub use Rattle.std.proofs.lemmas.List.Concat.{flat_map-cons}
pub use Rattle.std.proofs.lemmas.List.Folds.{list_all-append}
pub use Rattle.std.proofs.lemmas.Option.{none-some, IfSome_then}
pub use Rattle.std.proofs.lemmas.Slice.Eq.{slice_eq-Decides}
pub use Rattle.std.specs.Fmt.{decimal}
pub use Rattle.std.specs.List.{flat_map, list_all, AllByRecursion}
pub use Rattle.std.specs.Option.{option_map_or}
pub use Rattle.sas_core.proofs.Plain.{plain-append, plain-name}
pub use Rattle.sas_core.proofs.SameParts.{fact_same}
pub use Rattle.sas_core.specs.Changes.{plain_effect}
pub use Rattle.sas_core.specs.Grounded.{no_effect}
pub use Rattle.sas_core.specs.Names.{is_name, is_plain, IsName}
pub use Rattle.sas_core.specs.Numbers.{IsNumber, IsSigned}
pub use Rattle.sas_core.specs.Plain.{IsPlain}
pub use Rattle.sas_core.specs.Variables.{has_value, fact_exists, range_of, FactExists, HasValue, MayHaveValue, IsState}
pub use Rattle.sas_core.specs.WellRanged.{WellRanged, Listed, VariableFits, EffectFits, OperatorFits}
pub use Rattle.sas_core.specs.declared.grounded.Change.{Change}
pub use Rattle.sas_core.specs.declared.parts.Effect.{Effect}
pub use Rattle.sas_core.specs.declared.parts.Fact.{Fact}
pub use Rattle.sas_core.specs.declared.parts.Operator.{Operator}
pub use Rattle.sas_core.specs.declared.parts.Parts.{Parts}
pub use Rattle.sas_core.specs.declared.parts.Variable.{Variable}
pub use Rattle.sas_lines.proofs.Beginnings.{lines_stand_first, ended_lines_then}
pub use Rattle.sas_lines.proofs.EndedLines.{text_of_both}
pub use Rattle.sas_lines.proofs.Splitting.{lines-plain, unfinished-end, Plain}
pub use Rattle.sas_lines.proofs.Words.{NoSpace, same_words, NoSpace-number, NoSpace-signed, same_signed, ten_pos, words-first, words-joined, joined-words}
pub use Rattle.sas_lines.specs.FirstLines.{LinesStandFirst, EndedLines}
unfoldable pub use Rattle.sas_lines.specs.Lines.{lines, unfinished}
pub use Rattle.sas_lines.specs.Lines.{text}
unfoldable pub use Rattle.sas_lines.specs.Segments.{segments}
pub use Rattle.sas_lines.specs.Spelling.{signed_decimal, joined}
pub use Rattle.sas_reader.proofs.About.{about_laws_of}
pub use Rattle.sas_reader.proofs.Ends.{ended_line}
pub use Rattle.sas_reader.proofs.Every.{laws_of}
pub use Rattle.sas_reader.proofs.Live.{leads_line}
pub use Rattle.sas_reader.proofs.Paths.{after_append, ended_stops, after_ends, cut_at, ends_split, same_path, one_ended}
pub use Rattle.sas_reader.proofs.Plain.{plain-decimal, plain_lines}
pub use Rattle.sas_reader.specs.About.{of_line, of_byte, of_end}
pub use Rattle.sas_reader.specs.Ends.{StandsBefore}
pub use Rattle.sas_reader.specs.Faults.{IsOfBytes}
pub use Rattle.sas_reader.specs.Format.{IsBegun, Format, EndOf, KindAt, too_long, trailing, wrong, FaultOf}
pub use Rattle.sas_reader.specs.Laws.{Laws}
pub use Rattle.sas_reader.specs.Limit.{most_bytes}
pub use Rattle.sas_reader.specs.System.{OneLine, before, ended, After, LeadsToEnd, Leads, IsAllowed, Grammar, IsRejected}
pub use Rattle.sas_reader.specs.Texts.{lines_of}
pub use Rattle.sas_reader.specs.declared.fault.Fault.{Fault}
pub use Rattle.sas_reader.specs.declared.fault.Kind.{Kind}
pub use Rattle.sas_reader.specs.declared.fault.Kind.TheVariants.{Keyword, Name, Shape, Value, Memory}
pub use Rattle.sas_reader.specs.declared.reader.Front.{Front}
pub use Rattle.sas_task_file.specs.Ahead.{LineAhead, NumberAhead, SignedAhead, FactAhead, ChangeAhead, LinesBefore, AppendedBefore, EffectsBefore, FactsBefore, NamesBefore}
pub use Rattle.sas_task_file.specs.Counts.{Counted, in_order, uncounted, counted_on_seven, before_items, list_counts, section_counts, variable_counts, group_counts, operator_counts, rule_counts, task_counts, IsCounted, OneCount, SomeCount}
pub use Rattle.sas_task_file.specs.TaskReasons.{HasWrong, FirstWrong, first_wrong, line_bounds, OneTaskReason, OneWrongWord, Bounded, fact_bounds, change_bounds, IsTaskReason, SomeTaskReason, IsFirstWrong, SpeaksOfFacts, SomeWrongWord, WrongWordIsNamed, below}
pub use Rattle.sas_task_file.specs.Marks.{fixed_word_bytes, slot_of_due, IsDue, any_number, task_marks, OneDue, SomeDue, between_words, counted_dues, there, variable_dues, group_dues, operator_dues, rule_dues, numbered, positive_number, value_dues}
pub use Rattle.sas_task_file.specs.Sections.{spelled, LinesAhead, VariableAhead, GroupAhead, OperatorAhead, RuleAhead}
pub use Rattle.sas_task_file.specs.TaskFormat.{TaskLine, TaskLineFits, TaskSlot, task_line_bytes, task_layout, task_format, task_slot, fact, effect, head, word_slot, name_slot, number_slot, signed_slot, fact_slot, effect_slot, head_slot, NumbersKind, no_shape, no_value, TaskKind, task_texts, HasShape, number, word, name, signed, fact_words, head_words, FactNumbers, HeadNumbers, EffectNumbers, effect_words, single_line, between, counted, version_lines, metric_lines, variable_lines, group_lines, goal_lines, operator_lines, rule_lines, state_lines}
pub use Rattle.sas_task_file.specs.TaskLaws.{number_filling, filling, FillingsInBytes, last_slot, AreFillings, Completion, TaskIsFilled, OneCompletion}
pub use Rattle.sas_task_file.specs.TaskLine.{IsOfLine, test_of_due}
pub use Rattle.sas_task_file.specs.TaskStates.{TaskState, table_node, table_start, state_after, node_of_due, one_allocator}
pub use Rattle.sas_task_file.specs.TaskEvents.{behind_variable, behind_group, behind_operator, behind_rule, no_parts}
pub use Rattle.sas_task_file.specs.TaskValues.{name_in, number_in, signed_in, fact_in, effect_in, head_in, is_from}
pub use Rattle.sas_task_file.specs.declared.so_far.SoFar.{SoFar}
pub use Rattle.sas_task_file.specs.declared.marks.FixedWord.{FixedWord}
pub use Rattle.sas_task_file.specs.TaskRanges.{value_in, fact_in_ranges, effect_in_ranges, change_in_ranges, ranges_of, range_in}
pub use Rattle.sas_task_file.specs.TaskWords.{Spells, TakesNumber, TakesFact, TakesFacts, TakesHead}
pub use Rattle.sas_task_file.specs.Tracker.{after_move, tracker_start, track, mark_in, by_count, track_line, mark, row_at, row_in, IsRow, this_number, counts_start, after_count, counts_after, count_at}
pub use Rattle.sas_task_file.specs.declared.counts.Counts.{Counts}
pub use Rattle.sas_task_file.specs.declared.counts.ListCount.{ListCount}
pub use Rattle.sas_task_file.specs.declared.marks.Due.{Due}
pub use Rattle.sas_task_file.specs.declared.marks.Location.{Location}
pub use Rattle.sas_task_file.specs.declared.marks.Mark.{Mark}
pub use Rattle.sas_task_file.specs.declared.marks.WrongWord.{WrongWord}
pub use Rattle.sas_task_file.specs.declared.places.Move.{Move}
pub use Rattle.sas_task_file.specs.declared.places.Place.{Place}
pub use Rattle.sas_task_file.specs.declared.places.Row.{Row}
pub use Rattle.sas_task_file.specs.declared.tracker.Tracker.{Tracker}

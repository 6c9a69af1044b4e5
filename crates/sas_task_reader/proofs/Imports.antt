-- What the proofs use of other crates, and of the definitions of this one.
pub use Rattle.std.proofs.Common.{◌≡◌, ℕ, List, Option, Some, None, Result, refl, sym, ap, subst, ◌∙◌, IfOk, ◌≢◌, [], ◌∷◌, ◌++◌, Bool, length, append_assoc, IsTrue, codes, suc, ◌<◌, ◌-◌, arith, Ok, ◌≤◌, ◌+◌, true, false, nat_lt, zero, drop, Err, take, ◌&&◌, rules, inr, inl, length-append, ◌==◌, ◌↔◌, slice_index_or, ◌^◌, min, map, get_or, IsSomeAnd, IfSome, IfNone, ◌⊎◌, ap₂, not}
pub use Rattle.std.proofs.Math.Logic.{∥∥₁_elim, ∥∥₁_map}
pub use Rattle.std.proofs.Props.{props}
pub use Rattle.std.proofs.lemmas.Fmt.{decimal_digit}
pub use Rattle.std.proofs.lemmas.Bool.{eqb-true, and_from, and_parts, eq-eqb, ne_eqb}
pub use Rattle.std.proofs.lemmas.List.{take_at, take_all, length-take, length-map}
pub use Rattle.std.proofs.lemmas.List.Elements.{filter-append}
pub use Rattle.std.proofs.lemmas.Option.{none-some}
pub use Rattle.std.proofs.lemmas.Result.{on_ok_weaker}
pub use Rattle.std.specs.List.{AllByRecursion, flat_map, list_all}
pub use Rattle.std.specs.Result.{result_err}
pub use Rattle.sas_core.proofs.ChecksAreRules.{checks_are_the_rules}
pub use Rattle.sas_core.proofs.Plain.{plain_parts}
pub use Rattle.sas_core.specs.Changes.{plain_effect}
pub use Rattle.sas_core.specs.Names.{IsName, is_name}
pub use Rattle.sas_core.specs.Numbers.{IsNumber}
pub use Rattle.sas_core.specs.Plain.{IsPlain}
pub use Rattle.sas_core.specs.Variables.{fact_exists, range_of, has_value}
pub use Rattle.sas_core.specs.WellRanged.{WellRanged}
pub use Rattle.sas_core.specs.declared.parts.Effect.{Effect}
pub use Rattle.sas_core.specs.declared.parts.Fact.{Fact}
pub use Rattle.sas_core.specs.declared.parts.Operator.{Operator}
pub use Rattle.sas_core.specs.declared.parts.Parts.{Parts}
pub use Rattle.sas_core.specs.declared.parts.Variable.{Variable}
pub use Rattle.sas_flat.proofs.Blocks.{lists_opened, one_list_more}
pub use Rattle.sas_flat.proofs.Grown.{rules_more, pairs_more, operators_opened, operators_more, variables_opened, variables_more}
pub use Rattle.sas_flat.proofs.Tables.{table_none}
pub use Rattle.sas_flat.specs.Effects.{effect_with, effects_of}
pub use Rattle.sas_flat.specs.Lists.{lists_in}
pub use Rattle.sas_flat.specs.Operators.{operator}
pub use Rattle.sas_flat.specs.Outlines.{outline_of}
pub use Rattle.sas_flat.specs.Variables.{variable}
pub use Rattle.sas_lines.proofs.Splitting.{lines-one, unfinished-one, return_length, Plain, lines-none}
pub use Rattle.sas_lines.specs.Lines.{text, without_return, without_returns}
pub use Rattle.sas_lines.specs.FirstLines.{EndedLines}
pub use Rattle.sas_lines.proofs.Beginnings.{FrontOf, front_of_lines, line_before_end}
pub use Rattle.sas_lines.proofs.EndedLines.{ended_lines, text_of_both}
pub use Rattle.sas_lines.proofs.Returns.{returns_gone}
unfoldable pub use Rattle.sas_lines.specs.Lines.{lines}
pub use Rattle.sas_lines.specs.Separators.{Without}
pub use Rattle.sas_reader.proofs.AcceptedLines.{LinesAccepted, none_accepted, one_more, accepted}
pub use Rattle.sas_reader.proofs.Conversion.{Follows, reads_of_format}
pub use Rattle.sas_reader.proofs.Paths.{cut_at, after_ends, map-append, after_append, ends_split, same_path}
pub use Rattle.sas_reader.proofs.Plain.{plain}
pub use Rattle.sas_reader.proofs.Reading.{reads_all, refuses_all, feeds, end_fault}
pub use Rattle.sas_reader.proofs.Refusals.{reads_explained, refuses_explained}
pub use Rattle.sas_reader.specs.About.{EndsUnended}
pub use Rattle.sas_reader.specs.Found.{IsFoundOf, Kept, kept_bytes}
pub use Rattle.sas_reader.specs.declared.found.Excerpt.{Excerpt}
pub use Rattle.sas_reader.specs.Devices.{ValueOf, ReadsAll}
pub use Rattle.sas_reader.specs.Format.{IsBegun, ReadsAs, AreAllLines}
pub use Rattle.sas_reader.specs.Machine.{IsFront, AcceptsAhead}
pub use Rattle.sas_reader.specs.Reading.{Finishes}
pub use Rattle.sas_reader.specs.Refusals.{StandsBehind, behind_line, behind_text, at_end}
pub use Rattle.sas_reader.specs.System.{Grammar, LeadsToEnd, After, before, ended, IsAllowed, OneLine, IsRejected, Rejects, Node}
pub use Rattle.sas_reader.specs.Texts.{Reads, lines_of}
pub use Rattle.sas_reader.specs.declared.fault.Fault.{Fault}
pub use Rattle.sas_reader.specs.declared.fault.Kind.{Kind}
pub use Rattle.sas_reader.specs.declared.reader.Front.{Front}
pub use Rattle.sas_task_file.proofs.CountLaws.{count_after, is_counted}
pub use Rattle.sas_task_file.proofs.Counting.{Block, after-append, variable_told, group_told, operator_told, rule_told}
pub use Rattle.sas_task_file.specs.Counts.{IsCounted}
pub use Rattle.sas_task_file.specs.declared.counts.Counts.{Counts}
pub use Rattle.sas_task_file.specs.declared.counts.ListCount.{ListCount}
pub use Rattle.sas_task_reader.specs.declared.task_refusal.TaskRefusal.{TaskRefusal}
pub use Rattle.sas_task_file.proofs.DueBehind.{HasFacts, end_mark, ranges_behind, is_due, speaks_behind_variables}
pub use Rattle.sas_task_file.proofs.FirstWrongWords.{first_back}
pub use Rattle.sas_task_file.proofs.Ranges.{range_is, ranges_many}
pub use Rattle.sas_task_file.proofs.MarkLaws.{same_items}
pub use Rattle.sas_task_file.proofs.SomeWrongWord.{shape_of_value}
pub use Rattle.sas_task_file.proofs.TaskGrammar.{task_grammar}
pub use Rattle.sas_task_file.proofs.TaskSections.{less, is_less}
pub use Rattle.sas_task_file.proofs.Tracking.{IsBehindVariables}
pub use Rattle.sas_task_file.proofs.WrongWords.{HasBounds, same_bounds}
pub use Rattle.sas_task_file.specs.Ahead.{LineAhead}
pub use Rattle.sas_task_file.specs.TaskReasons.{HasWrong, FirstWrong, first_wrong, line_bounds, IsFirstWrong, IsTaskReason}
pub use Rattle.sas_task_file.specs.Marks.{slot_of_due, IsDue}
pub use Rattle.sas_task_file.specs.Sections.{HasNames, OperatorInRanges, spelled, LinesAhead}
pub use Rattle.sas_task_file.specs.TaskEvents.{after, nothing_yet, behind_variable, behind_group, behind_operator, behind_rule}
pub use Rattle.sas_task_file.specs.TaskFormat.{TaskLine, word, name, number, signed, fact, effect, head, task_slot, task_line_bytes, task_layout, task_format, TaskLineFits, HasShape, single_line, variable_lines, group_lines, operator_lines, rule_lines, number_slot, TaskSlot, word_slot, name_slot, signed_slot, fact_slot, effect_slot, head_slot, NumbersKind, no_shape, no_value, TaskKind, task_texts}
pub use Rattle.sas_task_file.specs.TaskLine.{ParsesDue, test_of_due, line_of_due}
pub use Rattle.sas_task_file.specs.TaskValues.{name_in, fact_in, effect_in, number_in, is_from, head_in}
pub use Rattle.sas_task_file.specs.TaskRanges.{ranges_of, fact_in_ranges, effect_in_ranges, change_in_ranges, head_in_ranges, value_in}
pub use Rattle.sas_task_file.specs.Tracker.{IsRow, value_due, tracker_start, track, mark_in, row_at, row_in, after_move, track_line, counts_start, after_count, counts_after, count_at}
pub use Rattle.sas_task_file.specs.declared.marks.Due.{Due}
pub use Rattle.sas_task_file.specs.declared.marks.Mark.{Mark}
pub use Rattle.sas_task_file.specs.declared.marks.WrongWord.{WrongWord}
pub use Rattle.sas_task_file.specs.declared.places.Event.{Event}
pub use Rattle.sas_task_file.specs.declared.places.Move.{Move}
pub use Rattle.sas_task_file.specs.declared.places.Place.{Place}
pub use Rattle.sas_task_file.specs.declared.places.Row.{Row}
pub use Rattle.sas_task_file.specs.declared.so_far.SoFar.{SoFar}
pub use Rattle.sas_task_file.specs.declared.line_values.LineValues.{LineValues}
pub use Rattle.sas_task_file.specs.declared.tracker.Tracker.{Tracker}
pub use Rattle.sas_task_reader.specs.NextLine.{due_slot, mark_of, WrongWordIn, count_of, IsLastLine}
pub use Rattle.sas_task_reader.specs.Sections.{ContentOf, section_lines, behind_section, SectionAhead, KeepsSection, AddsSection}
pub use Rattle.sas_task_reader.specs.TaskJudge.{state_of, row_of, HasEnded, SectionDue, past_section, RejectsLine, JudgesLine, MovesAhead, HasRow, NotesLine}
pub use Rattle.sas_task_reader.specs.TaskMachine.{LedBy, MachineStopped, task_behavior, reader_behavior, counts_behind, HasNoted}
pub use Rattle.sas_task_reader.specs.TaskOutline.{outline_in, kept_of}
pub use Rattle.sas_task_reader.specs.TaskReader.{task_view}
pub use Rattle.sas_task_reader.specs.TaskRefusal.{fault_in, found_in, HasReason}
pub use Rattle.sas_task_file.specs.TaskStates.{TaskState, table_start, numbers_of, state_after, node_of_due, table_node}
pub use Rattle.sas_task_reader.specs.contracts.flat_so_far.FlatSoFar.{the_view}
pub use Rattle.sas_task_reader.specs.declared.keeper.ParsedSection.{ParsedSection}
pub use Rattle.sas_task_reader.specs.declared.task_judge.sections.Section.{Section}
pub use Rattle.sas_task_reader.specs.declared.task_judge.TaskJudge.{TaskJudge}
pub use Rattle.sas_task_reader.specs.declared.task_machine.TaskMachine.{TaskMachine}
pub use Rattle.sas_task_reader.specs.declared.task_outline.OutlineSoFar.{OutlineSoFar}

-- What the proofs use of other crates, and of the definitions of this one.
pub use Rattle.std.proofs.Common.{set, ◌≡◌, ◌≢◌, ℕ, Bool, ◌-◌, true, false, List, ◌++◌, length, take, drop, sym, ap, ◌∙◌, arith, length-append, Option, None, Some, nat_eq, ◌⊎◌, inl, inr, suc, ◌+◌, ◌<◌, ◌≤◌, [], ◌∷◌, get_or, refl, subst, Ok, append_assoc, codes, map, IsTrue, ◌↔◌, Err}
pub use Rattle.std.proofs.Math.ListN.{get_or-append}
pub use Rattle.std.proofs.Math.Logic.{∥∥₁_map}
pub use Rattle.std.proofs.Math.Seq.{drop-append_seam, take-append_seam}
pub use Rattle.std.proofs.lemmas.Bool.{false_from_ne_true}
pub use Rattle.std.proofs.lemmas.Fmt.{decimal_injective, length-decimal-le}
pub use Rattle.std.proofs.lemmas.Grind.{flat_map-append}
pub use Rattle.std.proofs.lemmas.List.{take-append-drop, length-take-le, get_or-take, take_at, take_more, set_at, append-nil, append_cancel_left, append_cancel_right, same_from_push, map-append, take_all, length-take}
pub use Rattle.std.specs.Cmp.Lexicographic.{pointwise, same_text, other_text}
pub use Rattle.std.specs.Fmt.{decimal}
pub use Rattle.std.specs.List.{AllByRecursion}
pub use Rattle.std.specs.Option.{MatchOption}
pub use Rattle.sas_core.proofs.Plain.{plain-append, plain-name}
pub use Rattle.sas_core.specs.Names.{IsName}
pub use Rattle.sas_core.specs.Numbers.{IsPlanCost}
pub use Rattle.sas_core.specs.Plain.{IsPlain}
pub use Rattle.sas_core.specs.PlanParts.{PlanParts}
pub use Rattle.sas_core.specs.WellNamed.{WellNamed}
pub use Rattle.sas_core.specs.declared.plan.CostKind.{CostKind}
pub use Rattle.sas_lines.proofs.Splitting.{lines-one, return_length, lines-append, lines-end, unfinished-append, unfinished-end, Plain}
pub use Rattle.sas_lines.proofs.Words.{NoSpace, NoSpace-decimal, joined-words}
pub use Rattle.sas_lines.specs.Spelling.{joined}
pub use Rattle.sas_lines.specs.Lines.{text, without_return}
pub use Rattle.sas_lines.specs.FirstLines.{EndedLines}
pub use Rattle.sas_lines.proofs.Beginnings.{front_of_lines}
unfoldable pub use Rattle.sas_lines.specs.Lines.{lines, unfinished}
pub use Rattle.sas_reader.proofs.About.{about_laws_of}
pub use Rattle.sas_reader.proofs.AcceptedLines.{LinesAccepted, none_accepted, one_more, accepted}
pub use Rattle.sas_reader.proofs.Conversion.{Follows, reads_of_format, some_read}
pub use Rattle.sas_reader.proofs.Ends.{ended_line}
pub use Rattle.sas_reader.proofs.Every.{laws_of}
pub use Rattle.sas_reader.proofs.Live.{leads_line}
pub use Rattle.sas_reader.proofs.Paths.{one_ended, after_ends, cut_at, ends_split}
pub use Rattle.sas_reader.proofs.Plain.{plain, plain-decimal}
pub use Rattle.sas_reader.proofs.Reading.{end_fault, reads_all, refuses_all, feeds}
pub use Rattle.sas_reader.proofs.Refusals.{explained_by, explains, reads_explained, refuses_explained}
pub use Rattle.sas_reader.specs.About.{ConcernsText, EndsUnended, IsAbout, of_line, of_byte, of_end}
pub use Rattle.sas_reader.specs.Ends.{StandsBefore}
pub use Rattle.sas_reader.specs.Devices.{ReadsAll, ValueOf}
pub use Rattle.sas_reader.specs.Format.{ReadsAs, AreAllLines, IsText, FaultOf}
pub use Rattle.sas_reader.specs.Laws.{Laws, FaultIsNoText}
pub use Rattle.sas_reader.specs.Limit.{most_bytes}
pub use Rattle.sas_reader.specs.Reader.{IsRefused}
pub use Rattle.sas_reader.specs.Found.{IsFoundOf, Kept, Names, IsEnclosed}
pub use Rattle.sas_reader.specs.Refusals.{StandsBehind, behind_line, behind_text, at_end}
pub use Rattle.sas_reader.specs.Reading.{Finishes}
pub use Rattle.sas_reader.specs.Machine.{Behavior}
pub use Rattle.sas_reader.specs.System.{IsAllowed, Node, ended, LeadsToEnd, Grammar, IsRejected, Leads, Rejects}
pub use Rattle.sas_reader.specs.Texts.{lines_of, Reads}
pub use Rattle.sas_reader.specs.declared.fault.Fault.{Fault}
pub use Rattle.sas_reader.specs.declared.found.Excerpt.{Excerpt}
pub use Rattle.sas_reader.specs.declared.fault.Kind.{Kind}
pub use Rattle.sas_reader.specs.declared.fault.Kind.TheVariants.{Keyword, Name, Shape}
pub use Rattle.sas_plan_file.specs.PlanFormat.{step, plan_line_bytes, plan_format, PlanLineFits, cost, plan_texts, PlanLine, plan_layout, cost_front, cost_words, like_step, like_cost, like_none, BeginsWith, PlanKind, PlanIsFilled, filling_cost_line}
pub use Rattle.sas_plan_file.specs.PlanLine.{StepStandsFirst, Costs}
pub use Rattle.sas_plan_file.specs.PlanMachine.{plan_line_ok, PlanState, going, closed, plan_node, plan_start, plan_next, HasCostLine, plan_behavior, plan_state, StepsOn}
pub use Rattle.sas_plan_file.specs.PlanReader.{plan_view}
pub use Rattle.sas_plan_file.specs.PlanEnds.{IsCostLine, end_behind, with_end, LacksCostLine, rest_line, IsStepIfSome, EndsWithoutCost}
pub use Rattle.sas_plan_file.specs.PlanRefusal.{fault_of, found_of, TellsLacks}
pub use Rattle.sas_plan_file.specs.declared.plan_refusal.PlanRefusal.{PlanRefusal}
pub use Rattle.sas_plan_file.specs.PlanText.{KeepsLines, text_behavior}
pub use Rattle.sas_plan_file.specs.declared.plan_text.PlanText.{PlanText}

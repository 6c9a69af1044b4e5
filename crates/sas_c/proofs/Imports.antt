-- What the proofs use of other crates, and of the definitions of this one.
pub use Rattle.std.proofs.Common.{get_or, rules, Bool, true, ◌≡◌, ℕ, false, zero, suc, List, [], ◌∷◌, ◌++◌, refl, subst, Option, Some, None, ◌<◌, length, take, drop, codes, arith, sym, ap, ◌∙◌, inr, Result, Ok, Err, IfSome, decimal, inl, Bor, true≢false, IsSome, lit<}
pub use Rattle.std.proofs.lemmas.Option.{same_Some}
pub use Rattle.std.proofs.raw_atomic.Walks.{proved_at, leaves}
pub use Rattle.std.specs.Global.{Vec}
pub use Rattle.std.specs.Io.KnownBytes.{Appends}
pub use Rattle.std.specs.contracts.impls.GlobalAllocator.TheImpl.{ghosts}
pub use Rattle.std.specs.declared.alloc.Global.{Global}
pub use Rattle.core.proofs.alloc.Calls.{Al, handle_tells, Goes-blank}
pub use Rattle.core.proofs.alloc.Shapes.{after}
pub use Rattle.core.proofs.atomic.Steps.{fm}
pub use Rattle.core.proofs.cell.Inside.{Good, one}
pub use Rattle.core.specs.declared.alloc.Allocator.{Ghosts}
pub use Rattle.std_alloc.proofs.BoxSteps.Steps.{box_out, box_in}
pub use Rattle.std_alloc.proofs.ResultValues.{and_tt}
pub use Rattle.std_alloc.proofs.boxed.Box.from_raw.Met.{met}
pub use Rattle.std_alloc.specs.Box.Ownership.{box_owns}
pub use Rattle.sas_answers.specs.Answers.{layers_verdict}
pub use Rattle.sas_answers.specs.ValidLine.{valid_line}
pub use Rattle.sas_answers.specs.NumberedPlans.{AnswerFrom, NumbersAnswer, RunAnswer, number_fault_words, start_refusal}
pub use Rattle.sas_answers.specs.Answers.{valid_by}
pub use Rattle.sas_answers.specs.PlanWords.{invalid_line}
pub use Rattle.sas_core.specs.declared.parts.Parts.{Parts}
pub use Rattle.sas_meaning.specs.Layers.{IsLayered}
pub use Rattle.sas_answers.specs.Ending.{Output, EndsCounting}
pub use Rattle.sas_answers.specs.declared.ending.Status.{Status}
pub use Rattle.sas_answers.specs.declared.ending.Status.TheVariants.{Yes, No}
pub use Rattle.sas_answers.specs.declared.ending.ToolFault.{ToolFault}
pub use Rattle.sas_answers.specs.declared.ending.ToolFault.TheVariants.{Memory, Read, TooLong, Write}
pub use Rattle.sas_requests.proofs.Headlines.{IsOther, other_words, invalid_line_apart}
pub use Rattle.sas_requests.proofs.Outputs.{same_output}
pub use Rattle.sas_requests.specs.Headline.{Headline}
pub use Rattle.sas_requests.specs.Invariants.{Invariants}
pub use Rattle.sas_requests.specs.Output.{Out, TaskOut, UnlayeredAnswer, plain_refusal}
pub use Rattle.sas_requests.specs.declared.question.Request.{Request}
pub use Rattle.sas_requests.specs.declared.question.Request.TheVariants.{Check, Plan, Mutex}
pub use Rattle.sas_requests.proofs.PlanLines.{task_refused}
pub use Rattle.sas_reader.proofs.Known.{known_answer}
pub use Rattle.sas_reader.specs.Devices.{ValueOf}
pub use Rattle.sas_reader.specs.Format.{ReadsAs}
pub use Rattle.sas_reader.specs.Limit.{most_bytes}
pub use Rattle.sas_requests.proofs.SaidOutputs.{headline_of_text, invariants_of_text}
pub use Rattle.sas_requests.proofs.RequestEnds.{judged_by, check_yes, check_no}
pub use Rattle.sas_requests.specs.Answering.{PlanBy}
pub use Rattle.sas_requests.specs.OutBy.{OutBy, SaysLine, plain, explained, traced}
pub use Rattle.sas_plan_reasons.specs.declared.detail.Detail.{Detail}
pub use Rattle.sas_plan_reasons.specs.VerdictBy.{VerdictBy}
pub use Rattle.sas_task_file.specs.TaskFormat.{task_format}
pub use Rattle.sas_run.proofs.NumberVerdicts.{numbers_have_no_fault}
pub use Rattle.sas_run.specs.ByNumbers.{IsValidByNumbers, IsValidFrom}
pub use Rattle.sas_run.specs.Starts.{IsStart, IsStartFault, start_of}
pub use Rattle.sas_run.specs.declared.starts.StartFault.{StartFault}
pub use Rattle.sas_run.specs.declared.starts.StartFault.TheVariants.{Count, Value}
pub use Rattle.sas_c.specs.Holding.{HoldsTask, HeldOut, NumbersOut, RunOut, ReturnsHeld, owns_task}
pub use Rattle.sas_c.specs.Telling.{Returns, ReturnsState, IsValidRun, HeadlineByNumbers, SolvesByNumbers, ReturnsByNumbers, ReturnsHeadline, ReturnsInvariants, number_of_fault, number_of_status}
pub use Rattle.sas_c.specs.Written.{IsWritten}
pub use Rattle.sas_c.specs.contracts.box_pointer.BoxPointer.into_box.{ended, clauses}
pub use Rattle.sas_c.specs.declared.plans.PlanCall.{PlanCall}

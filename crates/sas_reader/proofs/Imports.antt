-- What the proofs use of other crates, and of the definitions of this one.
pub use lib.Count.{count_trailing_zeros}
pub use lib.Lanes.{chunk, mask_l}
pub use mir.Syntax.{w8}
pub use Rattle.std.proofs.Common.{leb, ◌≡◌, ◌≢◌, ℕ, List, [], ◌∷◌, ◌++◌, refl, sym, ap, ◌∙◌, append_assoc, ◌⊎◌, inl, inr, ◌+◌, ◌-◌, ◌≤◌, ◌<◌, Bool, true, false, not, length, take, drop, subst, arith, length-append, length-drop, Result, Ok, Err, ◌==◌, get_or, map, ap₂, nat_eq, codes, ◌||◌, Option, Some, None, IsTrue, ◌&&◌, eqb, IfOk, IsErr, IsErrAnd, rules, ◌↔◌}
pub use Rattle.std.proofs.KnownBytes.{Consumes-nil, Consumes-trans, Consumes-kept}
pub use Rattle.std.proofs.Math.Dec.{ltb}
pub use Rattle.std.proofs.Math.Nat.{min_comm}
pub use Rattle.std.proofs.Math.Seq.{take-add, take-append-add, drop-append_seam}
pub use Rattle.std.proofs.lemmas.Bool.{leb-false, ne_eqb, lt-ltb, ltb-true, eqb-true, eqb-false, false≢true}
pub use Rattle.std.proofs.lemmas.Bool.Decides.{eqb_tells}
pub use Rattle.std.proofs.lemmas.List.{append-nil, length-take, take_all, take-append-drop, length-take-le, take_at, drop_more, take-append-le, nil_from_length, same_from_push, length_push, take_min}
pub use Rattle.std.proofs.lemmas.List.Elements.{All-from_get_or}
pub use Rattle.std.proofs.lemmas.List.Sums.{list_all-from_AllPass}
pub use Rattle.std.proofs.lemmas.Simd.{run_in_chunk_le, run_in_chunk_fails, leading_from_mask_l, trailing_mask_l, length-chunk, bitmask_splat}
pub use Rattle.std.specs.Cmp.Lexicographic.{pointwise, same_text, other_text}
pub use Rattle.std.specs.Fmt.{decimal}
pub use Rattle.std.specs.Io.KnownBytes.{Consumes, IsAtEnd}
pub use Rattle.std.specs.List.{prefix_len, list_all, AllByRecursion}
pub use Rattle.std.specs.Option.{MatchOption}
pub use Rattle.std.specs.Result.{OnOk, IfErr}
pub use Rattle.sas_core.proofs.Plain.{plain_parts, plain_without}
pub use Rattle.sas_core.specs.Names.{is_plain, IsName}
pub use Rattle.sas_core.specs.Plain.{IsPlain}
pub use Rattle.sas_lines.proofs.Beginnings.{FrontOf, front_of_lines}
pub use Rattle.sas_lines.proofs.EndedLines.{ended_lines}
pub use Rattle.sas_lines.proofs.Splitting.{lines-append, unfinished-append, lines-few, lines-none, unfinished-plain_all, lines-end, unfinished-none, lines-plain, unfinished-plain, unfinished-end, lines-part, lines-without, Plain}
pub use Rattle.sas_lines.proofs.Words.{Without-decimal}
pub use Rattle.sas_lines.specs.Device.{Device}
pub use Rattle.sas_lines.specs.FirstLines.{TakesLine, LineStandsFirst, LinesStandFirst, NoEnd, EndedLines}
pub use Rattle.sas_lines.specs.Lines.{without_return, text}
unfoldable pub use Rattle.sas_lines.specs.Lines.{lines, unfinished}
pub use Rattle.sas_lines.specs.Progress.{Progress, completed}
pub use Rattle.sas_reader.specs.About.{IsAbout, of_line, of_byte, of_end, ConcernsText, EndsUnended, AboutLaws}
pub use Rattle.sas_reader.specs.Devices.{Refuses, unread_at, ended_at, faulty_at, ReadsAll}
pub use Rattle.sas_reader.specs.Ends.{StandsBefore}
pub use Rattle.sas_reader.specs.Faults.{IsOfBytes, answer}
pub use Rattle.sas_reader.specs.Format.{Format, KindAt, too_long, trailing, wrong, FaultOf, EndOf, Live, MoreIsDue, ReadsAs, IsBegun, AreAllLines, LacksLineEnd, MayFollow}
pub use Rattle.sas_reader.specs.Found.{IsFoundOf, has_word}
pub use Rattle.sas_reader.specs.Laws.{Laws, FaultlessIsLive, SomeReading, TextsAreEndedLines, TextIsRead, OneValue, OneSlot, NoSlotAtEnd, FaultIsDead, OneFault, TextIsLive, FaultIsNoText, OneReading}
pub use Rattle.sas_reader.specs.Limit.{most_bytes}
pub use Rattle.sas_reader.specs.Machine.{Behavior, IsFront, AcceptsAhead}
pub use Rattle.sas_reader.specs.Reader.{Reached, Accepted, LineIsDue, FaultBehind, TookFront, Stopped, TakesFrontOrStops, Stops, full, over, rejected, FaultIn, EndsEarly, IsRefused, ReadFails, unread, early, faulty, RefusedAtEnd, TakesPiece, FeedsMachine, StandsAt, ReachesEnd}
pub use Rattle.sas_reader.specs.Reading.{View, Feeds}
pub use Rattle.sas_reader.specs.Refusals.{ExplainsRefusal, ReadsOrExplains, StandsBehind, behind_line, behind_text, at_end}
pub use Rattle.sas_reader.specs.System.{Node, Grammar, ended, Rejects, Leads, before, IsAllowed, OneLine, After, LeadsToEnd, IsRejected}
pub use Rattle.sas_reader.specs.Texts.{Reads, lines_of}
pub use Rattle.sas_reader.specs.declared.fault.Fault.{Fault}
pub use Rattle.sas_reader.specs.declared.fault.Kind.{Kind}
pub use Rattle.sas_reader.specs.declared.fault.Kind.TheVariants.{End, Trailing, TooLong}
pub use Rattle.sas_reader.specs.declared.found.Excerpt.{Excerpt}
pub use Rattle.sas_reader.specs.declared.reader.Front.{Front}
pub use Rattle.sas_reader.specs.declared.reader.Reader.{Reader}
pub use Rattle.sas_reader.specs.declared.reader.Refusal.{Refusal}
unfoldable pub use Rattle.sas_reader.specs.Reader.{Stands}

-- What the proofs use of other crates, and of the definitions of this one.
pub use Rattle.std.proofs.lemmas.Option.{same_Some, slice_get-get_or, get_or_from_slice_get, slice_get_within}
pub use Rattle.std.proofs.Common.{◌≡◌, ℕ, ◌+◌, ◌≤◌, Bool, true, false, List, [], ◌∷◌, length, get_or, set, sym, zero, suc, arith, ◌<◌, ◌++◌, drop, refl, ◌∙◌, ap, subst, inl, inr, append-nil, ◌≢◌, ◌⊎◌, None, Some, take, Option, IfSome, vec_capacity, ◌↔◌, IsTrue, ◌^◌, ◌-◌, ◌||◌, below_more, rules, IsFalse, replicate, slice_get, min, IsSomeAnd, Greater, Equal, Result, Ordering, Ok, map, Less, Err, ◌*◌}
pub use Rattle.std.proofs.Math.ListN.{get_or-eq_default}
pub use Rattle.std.proofs.Math.Seq.{get_or-append_seam}
pub use Rattle.std.proofs.lemmas.Bool.{true≢false, cases_eq, cases_Bool, both_ways, cases_lt, and_parts, cases_order, eqb-false}
pub use Rattle.std.proofs.lemmas.Grind.{common_steps}
pub use Rattle.std.proofs.lemmas.List.{append_assoc, drop_all, drop_at, length-append, length-set, get_or-set_same, get_or-set_other, get_or_default, take-append-drop, drop_more, length_push, get_or_past, get_or_push, get_or_append_left, set-set, set-get_or, get_or-append_right, length-replicate, get_or-replicate, take_more, take_all, length-take, get_or-take, get_or-map, take-append-le, length-map, drop-append-le}
pub use Rattle.std.proofs.lemmas.List.Elements.{All-nil, All-cons, All-append, All-from_get_or, Contains-append_left, Contains-append_right, Contains-push, Contains-push_cases, Contains-append_cases, Contains-get_or, All-contains, All-from_recursion, All-weaker, All-head, All-tail, All-get_or}
pub use Rattle.std.specs.Global.{Vec}
pub use Rattle.std.specs.List.{All, Any, Contains, filter_map, cons_option, AllByRecursion, flat_map}
pub use Rattle.std.specs.Option.{option_to_list}
pub use Rattle.std.proofs.lemmas.List.Filters.{dedup_is}
pub use Rattle.std.proofs.lemmas.List.Kept.{IsStrictlySortedBy-dedup, Contains-from_dedup, Contains-dedup}
pub use Rattle.std.proofs.lemmas.List.Sorted.{Contains-permutation, searched, length_permutation, IsPermutation-sym}
pub use Rattle.std.proofs.lemmas.Map.Keys.{Less-from_sorted}
pub use Rattle.std.proofs.lemmas.Result.{IfOk-weaker}
pub use Rattle.std.specs.Cmp.{IsEquivalence, IsTotalOrder}
pub use Rattle.std.specs.List.Retain.{IsFiltered, DiffersFromLast}
pub use Rattle.std.specs.List.Sorted.{IsStrictlySortedBy, IsNonDecreasingBy, IsPermutation, IsSorted}
pub use Rattle.std.specs.Ordering.{nat_cmp, eq_by_cmp, ordering_then, ordering_reverse}
pub use Rattle.std.specs.Result.{MatchResult, is_ok}
pub use Rattle.sas_core.proofs.Fitting.{operator_fits, effect_fits}
pub use Rattle.sas_core.proofs.PlainEffects.{as_many_effects, effect_is_plain}
pub use Rattle.sas_core.proofs.Places.{holds_at, each_more}
pub use Rattle.sas_core.proofs.SameParts.{fact_same}
pub use Rattle.sas_core.specs.Changes.{change_of, fact_of, plain_effects}
pub use Rattle.sas_core.specs.Grounded.{operator_at, effect_at, group_at, no_effect}
pub use Rattle.sas_core.specs.Variables.{FactExists, MayHaveValue, range_of}
pub use Rattle.sas_core.specs.WellRanged.{WellRanged, EffectFits, VariableFits}
pub use Rattle.sas_core.specs.declared.grounded.Change.{Change}
pub use Rattle.sas_core.specs.declared.parts.Effect.{Effect}
pub use Rattle.sas_core.specs.declared.parts.Fact.{Fact}
pub use Rattle.sas_core.specs.declared.parts.Operator.{Operator}
pub use Rattle.sas_core.specs.declared.parts.Parts.{Parts}
pub use Rattle.sas_core.specs.declared.parts.Variable.{Variable}
pub use Rattle.sas_flat.proofs.ByKey.{under_holds, under_ascends}
pub use Rattle.sas_flat.proofs.Tables.{length-table}
pub use Rattle.sas_flat.specs.ByKey.{by_key}
pub use Rattle.sas_flat.specs.declared.by_key.Entry.{Entry}
pub use Rattle.sas_meaning.proofs.Members.{contains_none}
pub use Rattle.sas_meaning.specs.Steps.{preconditions, old_fact}
pub use Rattle.sas_meaning.proofs.Forced.{fact_within}
pub use Rattle.sas_groups.proofs.Effects.{keeps_from_effects, effect_of_keeps}
pub use Rattle.sas_groups.proofs.GreatestFamily.{group_of_larger, keeps_more, clash_more, outside_is_broken}
pub use Rattle.sas_groups.proofs.Iff.{iff_yes, iff_no, iff_from, iff_other, iff_not}
pub use Rattle.sas_groups.proofs.JointLists.{listed_invariants}
pub use Rattle.sas_groups.proofs.Turns.{Turns, turns_begin, turn_has, turn_more, turns_end}
pub use Rattle.sas_groups.specs.Keeping.{IsGone, IsFirstVerdict, AreGone, EffectKeeps, NotBoth}
pub use Rattle.sas_groups.specs.Clashes.{Keeps, Clash, sets, Contradict, Removes, IsRemoved}
pub use Rattle.sas_groups.specs.Families.{IsIn, IsGroupOf, IsGroupOfOr, IsKeptJointly, IsGreatest, MayBeExclusive}
pub use Rattle.sas_groups.specs.Verdicts.{verdict_at, AreJointVerdicts, IsJointVerdict}
pub use Rattle.sas_groups.specs.Lists.{known, known_left}
pub use Rattle.sas_groups.specs.declared.verdict.Verdict.{Verdict}
pub use Rattle.sas_groups.specs.declared.verdict.Verdict.TheVariants.{Derived, Initial, Broken, Exclusive}
pub use Rattle.sas_mutex.specs.Distinct.{AreDistinct, facts_at, AreOwnLists, IsBelow}
pub use Rattle.sas_mutex.specs.ByFact.{HasFact, HasFactBeside, AreLarger, under, AreByFact, entries_of, AreLargerOfEach, AreFirstNumbers, facts_below, fact_number}
pub use Rattle.sas_mutex.specs.Index.{IsIndexOf, groups_of, larger_groups_of}
pub use Rattle.sas_mutex.specs.Runs.{AreOnOne, AreRuns}
pub use Rattle.sas_mutex.specs.Notes.{value_note, group_note, IsOfGroupBeside, IsWide, AreBlank, AreFrom, IsValueNote, IsOfGroup, IsNoteOf, IsGroupNote, AreNotesOf}
pub use Rattle.sas_mutex.specs.Noting.{HasOtherValue, HasNotedGroup, ShareKept, SharesApart, NotesForGroup, IsContradicted, ChangesAt, IsThere, NotesFirstFact, IsSetApart, AreBelow, TakenBySome, IsCompleted, Forgets, IsNotedToo}
pub use Rattle.sas_mutex.specs.declared.index.Index.{Index}
pub use Rattle.sas_mutex.specs.declared.notes.GroupNote.{GroupNote}
pub use Rattle.sas_mutex.specs.declared.notes.GroupNote.TheVariants.{Nothing, One, Several}
pub use Rattle.sas_mutex.specs.declared.notes.Notes.{Notes}
pub use Rattle.sas_mutex.specs.Basis.{AreNotedWith, IsPartOf, Excludes, HasGrown, IsBasis, IsOfNone, SetsNone}
pub use Rattle.sas_mutex.specs.ByNotes.{IsNotedAt, ShareOne, AreKnown, IsMet, SomeRemoves, IsNotedFor, known_at, IsUnknownAt, IsGoneAt, IsDecidedByFirst, NeverFires, NotBothAt, BothClashAt, SetsBeside, IsApartAt, IsSingleOn, ClashesAt, SetsOtherValue, EffectKeepsGroup, AreGoneAt, IsOnVariableBefore}
pub use Rattle.sas_mutex.specs.Kept.{family_of, IsKept}
pub use Rattle.sas_mutex.specs.Effects.{KeepsAt, KeepsWithItself, IsUnconditional, EffectPlace, operator_of, effect_of}
pub use Rattle.sas_mutex.specs.Failures.{IsFailure, IsEarlier, IsFirstFailure, FailsFirst, failure_at, AreFailures}
pub use Rattle.sas_mutex.specs.Falling.{count, IsAtRest, AreCandidates, newly, Falls, FamilyHasRoom, RestsOn, IsWithin}
pub use Rattle.sas_mutex.specs.FirstFailures.{IsLowestPartner, IsAny, SetsVariable, IsFirstStaying, effect_of_failure, IsFirstOfEffect, IsFirstOfEffectAt}
pub use Rattle.sas_mutex.specs.VerdictsSoFar.{AreFirstVerdicts, IsUndecided, KeptSoFar, IsVerdictSoFar, AreVerdictsSoFar, AreFoundSoFar, ConsidersAt}
pub use Rattle.sas_mutex.specs.Looking.{IsIdle, IsAtEffect, ForPairs, Looked, IsPair, IsOfEffect, IsOfOperator, IsOfAlike, IsOfUnconditional}
pub use Rattle.sas_mutex.specs.Recorded.{IsNotedFrom}
pub use Rattle.sas_mutex.specs.Watching.{watch_at, IsLastBelow, AreChained, AreMore, WatchesMore, HasWatchFrom, since_of, IsWatchOf, RestsBy, IsOver, IsUnwatched, AreFallen, AreUnwatched, AreWatched, IsWatchedAnew, FallenAreUnwatched, StayUnwatched, AreLooseAtRest, IsReady}
pub use Rattle.sas_mutex.specs.declared.failures.Failure.{Failure}
pub use Rattle.sas_mutex.specs.declared.failures.Failure.TheVariants.{SetsTwo, MayStay}
pub use Rattle.sas_mutex.specs.declared.family.Excluding.{Excluding}
pub use Rattle.sas_mutex.specs.declared.family.Family.{Family}
pub use Rattle.sas_mutex.specs.declared.looking.Keeping.{Keeping}
pub use Rattle.sas_mutex.specs.declared.recorded.Recorded.{Recorded}
pub use Rattle.sas_mutex.specs.declared.watches.Watch.{Watch}
pub use Rattle.sas_mutex.specs.declared.watches.Watches.{Watches}
pub use Rattle.sas_mutex.specs.ByVariable.{place_of, AreEntered, effect_entry, AreByVariable, IsLarge}
unfoldable pub use Rattle.sas_mutex.specs.Distinct.{own_or}
